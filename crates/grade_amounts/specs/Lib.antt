-- What the tests of the grade compare.
pub mod Compared
