-- Laws of the sign and the size of a margin, and of terms that are not cut.
pub mod Signs
pub mod Stored
