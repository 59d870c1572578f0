-- The outcome of a division as the code has it, in arrays: the marks that it was handed, its text, and the answer.
pub mod Marks
pub mod Texts
pub mod Answers
