-- What the program's buffer has room for.
mod Room
