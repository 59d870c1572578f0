-- What readers of forms and numbers read.
pub mod Same
pub mod Numbers
pub mod Tested
pub mod Follow
pub mod InTurn
pub mod Suffixes
pub mod Places
pub mod Gathered
pub mod AlsoReads
pub mod ReadBack
pub mod Bounds
