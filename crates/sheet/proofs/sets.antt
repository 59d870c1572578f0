-- Sets of items, and their bits.
pub mod Sets
pub mod Items
pub mod Ranges
pub mod SetOf
pub mod Remainders
pub mod AllItems
pub mod Bundles
pub mod Members
pub mod Bits
pub mod Counted
