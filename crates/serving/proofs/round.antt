-- Laws of one round of the agents left. A caller of `serve` cites those of AgentsLeft and Parts.
pub mod AgentsLeft
pub mod Parts
