-- Values of items and bundles, and the places in use of a table.
pub mod Valuations
pub mod Tables
pub mod SetValues
