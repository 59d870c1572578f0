-- What stands in a buffer that is filled piece by piece.
mod Filled
