-- What a text and a lent buffer are answered. Assumes nothing: these are definitions.
use Rattle.std.specs.Prelude.{List, ℕ}
use Rattle.sheet.specs.Limits.{earlier_mark_limits}
use Rattle.sheet.specs.Answers.{Answer}
use Rattle.reading.specs.Reading.{reading_by}
use Rattle.sheet_to_division.specs.DividedFrom.{divided_by, divided_from}
use Rattle.sheet_to_division.specs.PrintedDivision.{printed_into}

-- "An entry that reads a sheet tries 1 to 9 first, and one that fills a lent buffer tries 10 last", and 14 "after 9 and before 10" (document
-- 02, order 7): a text, an allowance, and the length of the buffer
unfoldable pub share_out : List ℕ → ℕ → ℕ → Answer (List ℕ)
share_out text allowance room = printed_into room (divided_from text allowance)

-- "Sheets accepted before divide as they did" (document 02, order 3): what a text and a lent buffer were answered before, when a mark went to
-- 65,535 in five digits
abbrev pub share_out_before : List ℕ → ℕ → ℕ → Answer (List ℕ)
share_out_before text allowance room = printed_into room (divided_by (reading_by earlier_mark_limits) text allowance)
