-- Parts of a set of items, and what these are worth.
pub mod Parts
pub mod Values
pub mod Named
