-- What the result of reading says of the text that is accepted. Assumes nothing.
use mathlib.Core.Path.{◌≡◌, sym}
use mathlib.Core.List.{List}
use Rattle.std.specs.Prelude.{Ok}
use Prim.Native.Nat.{ℕ}
use Rattle.sheet.specs.Answers.{accepted}
use Rattle.sheet.specs.Refusals.{answer_of}
use Rattle.sheet.specs.Contents.{Contents}
use Rattle.reading.specs.Reading.{reading}

-- it carries what was read
pub sheet_read : (text : List ℕ) (found : Contents) → answer_of (Ok found) ≡ reading text → reading text ≡ accepted found
sheet_read text found told = sym told
