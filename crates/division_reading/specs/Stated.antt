-- What a division states (document 01, "The printed division", without the cutters line, which order 5 of document 02 leaves out).
-- Assumes nothing: these are definitions.
use Rattle.std.specs.Prelude.{List, ℕ}

-- "A yard line has the pieces it gets, their worth by its marks, its share, and its cut of all pieces into N piles"
pub record StatedLine : Type 0 where
  pub bundle : List ℕ
  pub worth : ℕ
  pub share : ℕ
  pub cut : List (List ℕ)

-- "The head repeats the counts and adds the grade": the counts are those of the sheet
pub record Stated : Type 0 where
  pub grade : ℕ
  pub lines : List StatedLine
