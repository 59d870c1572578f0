-- How long the lines of a printed division are, and laws of the cutters before the first 0.
pub mod Lengths
pub mod BeforeZero
