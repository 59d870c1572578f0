-- Laws of the waiting set and of the matching, Hall's theorem among them.
pub mod Cutter
pub mod Waiting
pub mod Matching
pub mod Congruence
pub mod Chosen
pub mod Hall
pub mod AllServed
pub mod Ties
pub mod Suited
pub mod Tight
pub mod Parts
