-- Density balance: numbers that lack little are grouped so that every group reaches its part, and so items left keep their part of the share.
pub mod Terms
pub mod Deficit
pub mod Partition
pub mod Sort
pub mod Refine
pub mod Splitting
pub mod Core
pub mod Regroup
pub mod Balance
