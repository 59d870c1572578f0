-- The steps of a walk over partitions: what a search keeps, and which branches it need not walk.
pub mod Scan
pub mod Branches
