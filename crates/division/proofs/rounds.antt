-- All rounds, and what they hand out.
pub mod Stored
pub mod Allotted
pub mod SameRounds
pub mod AllRounds
pub mod Accepted
