-- What a program writes for an answer, and what a caller by C's calling convention is told.
pub mod Replies
pub mod Stored
