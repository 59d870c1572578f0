-- What dividing a table answers, and what is promised of it. `internal` has what the contracts of private functions cite.
pub mod Stored
pub mod Promise
pub mod internal
