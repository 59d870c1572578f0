-- `Allowance` is what the crates above cite; the rest serves the proofs of this crate's functions: `One` has the cut into one
-- bundle, and the laws of sorting, sharing and searching stand beside the functions.
pub mod Allowance
pub mod Samples
mod One
mod Whole
mod ShareFirst
mod Stored
