-- From which sets of items the first agents can be served, and how many of them from each set. `internal` has what the contracts of private
-- functions cite.
pub mod Parts
pub mod ServedSets
pub mod Levels
pub mod internal
