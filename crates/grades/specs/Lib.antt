-- The grade of an allocation (document 01, "Grades"), what an allocation comes to, and the tests of the grades one after the other.
pub mod Grade
pub mod Assessment
pub mod Scale
