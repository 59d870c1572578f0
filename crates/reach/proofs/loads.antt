-- Laws of the loads of bundles.
pub mod Stored
