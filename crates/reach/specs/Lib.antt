-- The loads of bundles, and when a goal is out of their reach.
pub mod Loads
pub mod Pruning
