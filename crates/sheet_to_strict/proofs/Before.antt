-- A text accepted when a mark went to 65,535 in five digits (before order 3 of document 02) is written as it was then. Assumes nothing.
use mathlib.Core.Path.{◌≡◌}
use mathlib.Core.List.{List}
use Prim.Native.Nat.{ℕ}
use Rattle.sheet.specs.Limits.{earlier_mark_limits}
use Rattle.sheet.specs.Answers.{accepted}
use Rattle.sheet.specs.Contents.{Contents}
use Rattle.writing.specs.Filled.{filling}
use Rattle.reading.specs.Reading.{reading_by}
use Rattle.reading.proofs.WiderMarks.{answered-as-before}
use Rattle.strict_text.specs.StrictText.{strict_text}
use Rattle.sheet_to_strict.specs.Rewriting.{rewriting, rewriting_before}

pub accepted-before-written-alike : (text : List ℕ) (sheet : Contents) → reading_by earlier_mark_limits text ≡ accepted sheet → (room : ℕ)
    → rewriting text room ≡ rewriting_before text room
unfolding rewriting
accepted-before-written-alike text sheet read room = answered-as-before (λ c. filling room (strict_text c)) text sheet read
