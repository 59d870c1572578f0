-- The shares and the cuts of the agents of a table, and the refusals of a table.
pub mod Shares
pub mod Stored
pub mod Known
pub mod internal
