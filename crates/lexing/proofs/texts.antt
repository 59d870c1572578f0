-- The tokens of a text: of numbers in it.
pub mod Numbers
