-- What is kept of cuts, yard lines and the division while they are read.
pub mod InTurn
pub mod Division
