-- How a text becomes lines and tokens (document 01, "The sheet", and document 02, order 1), and which texts count for the same.
pub mod Lines
pub mod Tokens
pub mod Tokenised
pub mod TokensAfter
pub mod Respaced
