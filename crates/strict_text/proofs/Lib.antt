-- The strict text and the reading: the strict text is read back to its table, an accepted text has the tokens of its strict text, two
-- accepted texts have the same strict text exactly when they carry the same, and a strict text is read with any text behind it.
pub mod SheetTokens
pub mod SheetLexed
pub mod Readers
pub mod TokensRead
pub mod RowsInUse
pub mod WithinLimits
pub mod TextLength
pub mod RoundTrip
pub mod AtFront
pub mod Samples
