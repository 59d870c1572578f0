-- The theorem that a division is accepted exactly if all it states is true, and samples; then the laws that these and the crates above cite.
pub mod Theorems
pub mod Samples
pub mod Allocating
pub mod Verdicts
pub mod ReadOfSheet
