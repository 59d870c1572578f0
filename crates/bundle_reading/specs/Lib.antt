-- The bundles of a division, and what reading one answers.
pub mod Bundles
pub mod Results
