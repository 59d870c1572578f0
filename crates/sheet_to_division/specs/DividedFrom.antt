-- From the text of a sheet to what it carries and its division. Assumes nothing: these are definitions.
use Rattle.std.specs.Prelude.{List, ℕ}
use Rattle.sheet.specs.Answers.{Answer, accepted, and_then}
use Rattle.sheet.specs.Contents.{Contents}
use Rattle.reading.specs.Reading.{reading}
use Rattle.rounds.specs.Division.{Division, answer}

-- what a sheet carries and its division, with an allowance for cutting: "an accepted sheet gets the division of its table" (document 01, "The
-- two lists of demand 3")
abbrev pub with_division : ℕ → Contents → Answer (Contents × Division)
with_division allowance sheet = and_then (answer sheet allowance) (λ d. accepted (sheet, d))

-- what a text carries, by a way of reading it, and its division
abbrev pub divided_by : (List ℕ → Answer Contents) → List ℕ → ℕ → Answer (Contents × Division)
divided_by read text allowance = and_then (read text) (with_division allowance)

-- "An entry that reads a sheet tries 1 to 9 first", and 14 "after 9" (document 02, order 7): a text and an allowance
unfoldable pub divided_from : List ℕ → ℕ → Answer (Contents × Division)
divided_from text allowance = divided_by reading text allowance
