-- What is written into a lent buffer: bytes one after the other, by a writer that keeps the place, fields and groups of numbers, a text that
-- fills the buffer from its front, and a length that is stored.
pub mod Output
pub mod WithText
pub mod Fields
pub mod Filled
pub mod Answered
