-- The shape of what is read of a division: what its layout, its counts and the numbers that it names make sure of (refusal 11 of document 02,
-- order 5). Assumes nothing: these are definitions.
use Rattle.std.specs.Prelude.{◌≡◌, ℕ, ◌^◌, ◌<◌, length}
use mathlib.Core.List.{List, Memᴰ as Mem}
use Rattle.lists.specs.Lists.{Within, Rising}
use Rattle.sheet.specs.Limits.{sum_digits}
use Rattle.division_numbers.specs.Numbers.{grade_digits}
use Rattle.division_reading.specs.Stated.{StatedLine, Stated}

-- "a pile's pieces rise", and are pieces of the sheet
pub record IsBundle (m : ℕ) (bundle : List ℕ) : Type 0 where
  pub on_sheet : Within m bundle
  pub rises : Rising bundle

-- a line for each of n agents, of m items; "a pile's pieces rise, also in a cut"
pub record WellFormed (n m : ℕ) (d : Stated) : Type 0 where
  pub line_each : length d.lines ≡ n
  pub bundle : (l : StatedLine) → Mem l d.lines → IsBundle m l.bundle
  pub cut_each : (l : StatedLine) → Mem l d.lines → length l.cut ≡ n
  pub cut_bundle : (l : StatedLine) → Mem l d.lines → (b : List ℕ) → Mem b l.cut → IsBundle m b

-- "a worth or share has at most eleven digits, a grade one"
pub record FewDigits (d : Stated) : Type 0 where
  pub grade_below : d.grade < 10 ^ grade_digits
  pub worth_below : (l : StatedLine) → Mem l d.lines → l.worth < 10 ^ sum_digits
  pub share_below : (l : StatedLine) → Mem l d.lines → l.share < 10 ^ sum_digits
