-- The theorems of the demands; then the laws that the proofs of the functions cite.
pub mod Answered
pub mod Reasoned
pub mod Theorems
-- one round, and all rounds
pub mod round
pub mod rounds
