-- The growth partitions are enough: the first best of them is the first best of all partitions.
pub mod Exchange
pub mod Enough
pub mod Share
