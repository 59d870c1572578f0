-- What reading a sheet of marks from bytes answers (document 01, "Reasons to turn a sheet down, in checking order", 1 to 8). `internal` has
-- what the contract of a private function cites; no public contract does.
pub mod Reading
pub mod Stored
pub mod SampleTexts
pub mod internal
