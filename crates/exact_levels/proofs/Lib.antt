-- Laws of the sets from which agents can be served: parts of a set, what can be kept of a set, and the levels.
pub mod sets
pub mod kept
pub mod Levels
