-- Laws of the bundles of a partition: the items in them, sums over them, and that they allocate the items.
pub mod Bundles
pub mod Sums
pub mod Allocating
