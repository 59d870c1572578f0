-- The maximin share of values and the partition that shows it (document 01, "Share and cut").
pub mod Partitions
pub mod Share
