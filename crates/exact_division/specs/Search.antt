-- What the search for an exact division answers. Assumes nothing: these are definitions.
use Rattle.std.specs.Prelude.{◌≡◌, Bool, true, List, ℕ}
use Rattle.sheet.specs.Answers.{Answer, accepted, and_then}
use Rattle.sheet.specs.Contents.{Contents}
use Rattle.shares.specs.Shares.{sharing}
use Rattle.exact_division.specs.Exact.{exact_exists, ExactDivision}

-- refused as dividing the sheet is; else whether there is an exact division: "It says none only where no such division exists"
unfoldable pub searching : Contents → Answer Bool
searching sheet = and_then (sharing sheet) (λ cuttings. accepted (exact_exists sheet))

-- "Which of several it shows is left free, and is named with what holds of it": the bundles (piles) that may be shown for a sheet.
-- Where there is an exact division they are one, any of several; else nothing is asked of them, since none are shown.
abbrev pub MayShow : Contents → List (List ℕ) → Type 0
MayShow sheet bundles = searching sheet ≡ accepted true → ExactDivision sheet bundles
