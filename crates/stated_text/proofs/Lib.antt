-- The text of what a division states is read back to just that: `DivisionTokens` and `Lexed` have the tokens of the text, `TokensRead` what is
-- read of them, `Lines` what a line of a division in the right shape has, `ReadBack` the theorem. `TextLength` bounds the text.
pub mod ReadBack
pub mod Lines
pub mod DivisionTokens
pub mod Lexed
pub mod TokensRead
pub mod TextLength
