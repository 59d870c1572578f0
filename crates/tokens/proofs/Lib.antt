-- Laws of the definitions.
pub mod texts
