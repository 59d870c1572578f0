-- Numbers in decimal digits, by their bytes.
pub mod Numerals
