-- Laws of digits: the bounds that they keep, and the numbers that they stand for.
pub mod Digits
pub mod DecimalDigits
