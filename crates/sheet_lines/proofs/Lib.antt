-- Laws of the lines of a sheet: what is kept of marks and lines while they are read, how many are read, what is left behind them, and what
-- the head and the line `(end)` are where they are read.
pub mod kept
pub mod Shape
pub mod Suffixes
pub mod Places
