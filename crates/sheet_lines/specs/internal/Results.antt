-- What the private functions answer for the marks of a line that are read from the tokens at a place: nothing, or the marks as they are
-- stored, and the place just behind them. Assumes nothing: these are definitions.
use Rattle.std.specs.Prelude.{List, map, ℕ, Option}
use Rattle.lists.specs.Lists.{padded}
use Rattle.sheet.specs.Limits.{most_items, greatest_mark}
use Rattle.tokens.specs.Tokens.{Token}
use Rattle.tokeniser.specs.declared.Cursor.{Cursor}
use Rattle.lexing.specs.Results.{found_from}
use Rattle.sheet_lines.specs.Marks.{allowed_row}
use Rattle.sheet_lines.specs.Kept.{reduced}
use Rattle.sheet_lines.specs.declared.yards.Line.{Line}

-- whether all marks of a line are allowed, and the row of them
abbrev pub read_marks : List ℕ → Line
read_marks marks = record { allowed = allowed_row greatest_mark marks; row = padded most_items 0 (map reduced marks) }

-- the marks of a line
abbrev pub marks_from : List ℕ → Cursor → Option (List ℕ × List Token) → Option (Line × Cursor)
marks_from s c o = found_from read_marks s c o
