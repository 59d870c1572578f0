-- What the search for an exact division says of the box's division: of every table by its grade, and of the starred sheets.
pub mod Theorems
pub mod Samples
