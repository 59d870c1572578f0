-- Laws of the tests that leave a branch of the walk.
pub mod Reached
pub mod Threshold
pub mod Greatest
pub mod Needed
pub mod OutOfReach
