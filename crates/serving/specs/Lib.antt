-- What one round settles. `internal` has what the contracts of private functions cite; no public contract does.
pub mod Serving
pub mod internal
