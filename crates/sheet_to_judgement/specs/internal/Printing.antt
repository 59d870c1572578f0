-- What printing the judgement on a sheet's division into a lent buffer answers. Assumes nothing: these are definitions.
use Rattle.std.specs.Prelude.{List, ℕ, Option}
use Rattle.sheet.specs.Contents.{Contents}
use Rattle.sheet.specs.Answers.{Answer, and_then}
use Rattle.writing.specs.Filled.{filling}
use Rattle.division_reading.specs.Stated.{Stated}
use Rattle.stated_truth.specs.Judging.{judging}
use Rattle.sheet_to_judgement.specs.AcceptedText.{accepted_text}

-- the text for what a division of the sheet states, in a buffer of so many bytes
unfoldable pub printing_judgement : Contents → Option Stated → ℕ → Answer (List ℕ)
printing_judgement sheet stated room = and_then (judging sheet stated) (λ margins. filling room (accepted_text margins))
