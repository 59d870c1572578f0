-- Laws of the grade, and the scale that the grades are.
pub mod Samples
pub mod NoneNegative
pub mod Grades
pub mod InPlaces
pub mod Implied
pub mod Scale
