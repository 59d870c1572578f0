-- The lines of a printed division, and the cutters that one of them lists.
pub mod PrintedLines
pub mod BeforeZero
