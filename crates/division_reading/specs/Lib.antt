-- What reading a division, as members bring it, answers (document 02, order 5, refusal 11). `internal` has what the contracts of private
-- functions cite; no public contract does.
pub mod DivisionForms
pub mod Stated
pub mod Shape
pub mod Grammar
pub mod Outcome
pub mod internal
