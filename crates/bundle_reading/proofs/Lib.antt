-- Laws of items in rising order, and of what is left behind a bundle.
pub mod ItemsInTurn
pub mod Places
