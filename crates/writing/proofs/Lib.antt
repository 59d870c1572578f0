-- Laws of writing: of the place where a text ends, of the lengths of texts, of a buffer that is filled from its front,
-- and of what follows an answer.
pub mod Written
pub mod Filled
pub mod Lengths
pub mod Following
