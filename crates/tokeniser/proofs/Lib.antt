-- Laws of the places of a text: the tokens at them, what counts for nothing there, the next token, and the places behind tokens.
pub mod Places
pub mod Passing
pub mod Blanks
pub mod FirstToken
pub mod NextToken
pub mod Behind
