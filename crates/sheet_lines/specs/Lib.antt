-- The lines of a sheet (document 01, "The sheet"), and what the readers of this crate give for them. `internal` has what the contracts of
-- private functions cite; no public contract does.
pub mod SheetForms
pub mod Grammar
pub mod Marks
pub mod Kept
pub mod Results
pub mod internal
