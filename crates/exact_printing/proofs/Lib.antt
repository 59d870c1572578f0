-- Laws of the printed text and of the answers, and the length of buffer that is always enough.
pub mod Texts
pub mod Answers
pub mod Longest
