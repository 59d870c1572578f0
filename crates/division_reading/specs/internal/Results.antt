-- What the private functions answer for what the grammar reads from the tokens at a place: nothing, or what is kept of it, and the place
-- just behind it. Assumes nothing: these are definitions.
use Rattle.std.specs.Prelude.{List, ℕ, Option}
use Rattle.tokens.specs.Tokens.{Token}
use Rattle.tokeniser.specs.declared.Cursor.{Cursor}
use Rattle.lexing.specs.Results.{found_from}
use Rattle.division_reading.specs.Stated.{StatedLine}
use Rattle.division_reading.specs.Outcome.{cut_sets, kept_line, kept_lines}
use Rattle.division_reading.specs.declared.StatedLine as line

-- the bundles of a cut
abbrev pub cut_from : List ℕ → Cursor → Option (List (List ℕ) × List Token) → Option (List ℕ × Cursor)
cut_from s c o = found_from cut_sets s c o

-- a yard line
abbrev pub line_from : List ℕ → Cursor → Option (StatedLine × List Token) → Option (line.StatedLine × Cursor)
line_from s c o = found_from kept_line s c o

-- the yard lines
abbrev pub lines_from : List ℕ → Cursor → Option (List StatedLine × List Token) → Option (List line.StatedLine × Cursor)
lines_from s c o = found_from kept_lines s c o
