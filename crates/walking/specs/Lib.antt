-- The walk over the growth partitions: where it may stand, and what it finds.
pub mod Walk
