-- The places of a list: what stands in them, what is stored there, and loops that go through them.
pub mod Places
pub mod Padding
pub mod Filling
pub mod Stores
pub mod Zeros
pub mod Passing
pub mod Prefixes
pub mod Fronts
pub mod PartRest
pub mod Defaults
pub mod Entries
