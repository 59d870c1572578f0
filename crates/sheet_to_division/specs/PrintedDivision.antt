-- The text of a sheet's division. Assumes nothing: these are definitions.
use Rattle.std.specs.Prelude.{List, ℕ}
use Rattle.sheet.specs.Answers.{Answer, and_then}
use Rattle.sheet.specs.Contents.{Contents}
use Rattle.writing.specs.Filled.{filling}
use Rattle.rounds.specs.Division.{Division, division_by_rounds}
use Rattle.printing.specs.Printed.{printed}

-- the division of a sheet, printed
abbrev pub printed_division : Contents → List ℕ
printed_division sheet = printed sheet (division_by_rounds sheet)

-- "one that fills a lent buffer tries 10 last": a sheet and its division, printed into a buffer of so many bytes
abbrev pub printed_into : ℕ → Answer (Contents × Division) → Answer (List ℕ)
printed_into room divided = and_then divided (λ (sheet, d). filling room (printed sheet d))
