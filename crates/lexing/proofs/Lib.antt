-- Laws of the definitions, in folders by what they speak of: the tokens of a text and at its places, and what readers read.
pub mod texts
pub mod readers
