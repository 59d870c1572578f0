-- The division of a table by the rounds of document 01, and its grade; and the sample sheets.
pub mod Round
pub mod Division
pub mod Documented
pub mod SampleSheets
