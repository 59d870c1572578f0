-- What the readers answer for what the grammar reads from the tokens at a place: nothing, or what is read, and the place just behind it.
-- Assumes nothing: these are definitions.
use Rattle.std.specs.Prelude.{List, ℕ, Option, None, Some}
use Rattle.lists.specs.Lists.{all}
use Rattle.sheet.specs.Limits.{greatest_mark}
use Rattle.sheet.specs.declared.Sheet.{Sheet}
use Rattle.tokens.specs.Tokens.{Token}
use Rattle.tokeniser.specs.Behind.{place_left}
use Rattle.tokeniser.specs.declared.Cursor.{Cursor}
use Rattle.lexing.specs.Results.{found_from}
use Rattle.sheet_lines.specs.Grammar as grammar
use Rattle.sheet_lines.specs.Marks.{allowed_row}
use Rattle.sheet_lines.specs.Kept.{kept_table}
use Rattle.sheet_lines.specs.declared.body.Body.{Body}

-- the head: the counts
unfoldable pub head_from : List ℕ → Cursor → Option (ℕ × ℕ × List Token) → Option (Sheet × Cursor)
head_from s c None = None
head_from s c (Some (agents, items, ts)) = Some (record { agents = agents; items = items }, place_left s c ts)

-- the others give whether all marks are allowed, and the table of the marks, each reduced
abbrev pub read_body : grammar.Body → Body
read_body b = record { allowed = all (allowed_row greatest_mark) b.rows; table = kept_table b.rows }

-- the lines between the first line and the line `(end)`
abbrev pub body_from : List ℕ → Cursor → Option (grammar.Body × List Token) → Option (Body × Cursor)
body_from s c o = found_from read_body s c o
