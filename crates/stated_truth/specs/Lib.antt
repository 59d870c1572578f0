-- When all that a division states is true, and what judging a division answers (document 02, order 5).
pub mod Truth
pub mod Judging
pub mod Lines
