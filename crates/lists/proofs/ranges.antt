-- Ranges, and sub-lists.
pub mod Ranges
pub mod RangeSublists
pub mod Sublists
