-- Laws of `scan` and `searched`, which crates above cite, and of the branches that are passed over.
pub mod Scan
pub mod Searched
pub mod Branches
