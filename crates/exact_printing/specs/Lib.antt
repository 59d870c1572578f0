-- What printing an exact division writes and answers. `internal` has what the contracts of private functions cite.
pub mod ExactText
pub mod Printing
pub mod internal
