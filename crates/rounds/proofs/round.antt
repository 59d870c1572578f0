-- The parts of one round, what it depends on, the invariant that it keeps, and all rounds one after the other.
pub mod Held
pub mod Parts
pub mod Congruence
pub mod Invariant
pub mod Rounds
pub mod Served
