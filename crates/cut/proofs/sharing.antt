-- The law of dealing values to bundles.
pub mod Dealt
