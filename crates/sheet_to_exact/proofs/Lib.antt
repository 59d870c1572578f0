-- How reading's answer is shown, that every accepted text gets its answer, that none is refused for an allowance, sheet a, and the three players.
pub mod Showing
pub mod Accepted
pub mod NoAllowance
pub mod Samples
pub mod ThreePlayers
