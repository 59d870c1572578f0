-- One step after the other of the two searches.
pub mod LargestTight
pub mod FirstMatching
