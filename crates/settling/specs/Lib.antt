-- Which bundles suit whom, and what one round settles.
pub mod Suiting
pub mod Settling
