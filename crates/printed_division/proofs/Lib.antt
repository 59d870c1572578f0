-- Laws of the text of a division.
pub mod OutcomeLine
