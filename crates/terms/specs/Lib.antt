-- The terms of a division: those of document 01, and which others are allowed.
pub mod Terms
pub mod Allowed
