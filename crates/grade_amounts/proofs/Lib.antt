-- The tests of the grade by the amounts compared.
pub mod Tests
