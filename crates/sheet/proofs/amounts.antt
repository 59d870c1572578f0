-- Amounts compared agent by agent.
pub mod Comparing
