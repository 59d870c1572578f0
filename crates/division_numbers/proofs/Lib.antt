-- Laws of the numbers that a division states: what is left behind them.
pub mod Places
