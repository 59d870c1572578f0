-- Laws of exact divisions. `Giving` and `Holders` go from the ways of giving each item to an agent to allocations and back; on them stands
-- `Existence`. `Grades` has the test for grade 3, `Answers` the answers of the search, `Theorems` what holds of them for every table.
-- `Pruning` is for the tables of `NoneSamples`, which are too large to be tried in all ways.
pub mod Giving
pub mod Holders
pub mod Existence
pub mod Grades
pub mod Answers
pub mod Theorems
pub mod Samples
pub mod Pruning
pub mod NoneSamples
