-- Laws of what a program writes for an answer, and of what a caller by C's calling convention is told.
pub mod Replied
pub mod Stored
