-- Laws of sets that name items of the sheet only.
mod OfSheet
