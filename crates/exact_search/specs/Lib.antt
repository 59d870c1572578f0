-- What the search for an exact division answers in code. `internal` has what the contracts of private functions cite.
pub mod Outcome
pub mod internal
