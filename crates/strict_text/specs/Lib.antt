-- The strict text of a table of marks, and the tables that have one.
pub mod StrictText
pub mod WithinLimits
