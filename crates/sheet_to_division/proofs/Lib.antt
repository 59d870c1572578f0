-- Sheet a, the shares of the sheet of three players, the theorem that every accepted text is divided and printed, and that a text accepted
-- before order 3 of document 02 is answered as it was.
pub mod Accepted
pub mod Before
pub mod ByPrinting
pub mod Samples
pub mod ThreePlayers
