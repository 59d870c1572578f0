-- Growth partitions (document 02, order 7: growth layouts): what they are, the list of them, and how many there are.
-- `internal` has what the contracts of private functions cite; no public contract does.
pub mod Growth
pub mod Counts
pub mod internal
