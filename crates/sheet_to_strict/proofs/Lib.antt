-- Sheet a as typed, every accepted text is written, the theorems on what is written, that a text accepted before order 3 of document 02 is
-- written as it was, and what is answered by what reading answers.
pub mod Accepted
pub mod Before
pub mod Read
pub mod Samples
pub mod Theorems
