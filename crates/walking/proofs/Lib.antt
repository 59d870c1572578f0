-- Laws of the walk: `growth` says that the growth partitions are enough, `Steps` and `Wasted` go with one step of the walk.
pub mod growth
pub mod Limits
mod Steps
mod Wasted
