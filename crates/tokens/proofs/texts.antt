-- Laws of the tokens of a text: by its first byte, of its parts, of each of its lines, and of texts that count for the same.
pub mod Kinds
pub mod Bytewise
pub mod Words
pub mod Parts
pub mod Tokenised
pub mod LineTokens
pub mod TextTokens
pub mod BehindLine
pub mod Alike
pub mod Respaced
