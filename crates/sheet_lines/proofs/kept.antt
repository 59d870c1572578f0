-- What is kept of marks and of yard lines while they are read.
pub mod Tested
pub mod StoredTable
pub mod InTurn
