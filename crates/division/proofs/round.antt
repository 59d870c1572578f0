-- One round, as the code plays it.
pub mod SetSums
pub mod CutSets
pub mod NextRound
