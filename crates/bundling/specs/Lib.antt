-- The bundles (piles) of a partition (layout).
pub mod Bundles
