-- What the text of a sheet gets: reading and dividing, one after the other, in `DividedFrom`; then printing.
pub mod DividedFrom
pub mod PrintedDivision
pub mod ShareOut
