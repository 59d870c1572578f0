-- What an allocation comes to, as the code has it.
pub mod Assessed
pub mod internal
