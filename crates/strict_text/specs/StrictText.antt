-- The strict text of a sheet (document 01, "The sheet"): what a writer writes. It does not go through the tokens by which a text is
-- read. Assumes nothing: these are definitions.
use Rattle.std.specs.Prelude.{List, [], ◌∷◌, ◌++◌, map, ℕ, suc, ◌+◌, ◌*◌, take}
use Rattle.text.specs.Bytes.{bytes}
use Rattle.text.specs.Decimal.{spaced_number, spaced_numbers}
use Rattle.sheet.specs.Limits.{most_agents, most_items, mark_digits}
use Rattle.sheet.specs.Contents.{Contents}
use Rattle.sheet_lines.specs.SheetForms.{before_agents, before_items, before_turn, before_marks, line_end, last_line}
use Rattle.sheet_lines.specs.Grammar.{Body}

-- "The first line gives the counts": (sheet (yards 2) (pieces 3))
unfoldable pub head_text : ℕ → ℕ → List ℕ
head_text agents items = bytes before_agents ++ spaced_number agents ++ bytes before_items ++ spaced_number items ++ bytes line_end

-- the line of one yard, "with one mark for each piece": (yard 1 (marks 5 3 4))
unfoldable pub yard_text : ℕ → List ℕ → List ℕ
yard_text yard row = bytes before_turn ++ spaced_number yard ++ bytes " " ++ bytes before_marks ++ spaced_numbers row ++ bytes line_end

-- "Then comes one line a yard, from yard 1 upward": the lines of these rows, the first of them with the number `yard`
unfoldable pub yard_texts : ℕ → List (List ℕ) → List ℕ
yard_texts yard [] = []
yard_texts yard (row ∷ rows) = yard_text yard row ++ yard_texts (yard + 1) rows

-- "places beyond the yards and pieces in use count for nothing": the rows of marks in use
abbrev pub rows_in_use : ℕ → ℕ → List (List ℕ) → List (List ℕ)
rows_in_use agents items table = map (take items) (take agents table)

-- the lines between the first line and the line `(end)`
unfoldable pub body_text : Body → List ℕ
body_text lines = yard_texts 1 lines.rows

-- the text of a sheet with these counts and these lines
unfoldable pub sheet_text : ℕ → ℕ → Body → List ℕ
sheet_text agents items lines = head_text agents items ++ body_text lines ++ bytes last_line

-- the lines of what a sheet carries
abbrev pub lines_of : Contents → Body
lines_of c = record { rows = rows_in_use c.agents c.items c.table }

unfoldable pub strict_text : Contents → List ℕ
strict_text c = sheet_text c.agents c.items (lines_of c)

-- the most bytes of the head of a table within the limits: (sheet (yards 6) (pieces 12)) and the line feed
abbrev pub longest_head_text : ℕ
longest_head_text = 30

-- the most bytes of a yard line: (yard 6 (marks)) and the line feed, and a space and the digits of a mark for each piece
abbrev pub longest_yard_text : ℕ
longest_yard_text = 17 + most_items * suc mark_digits

-- a buffer of so many bytes is long enough for every table within the limits (proofs/TextLength.antt): the head, a line for each yard,
-- and (end) with the line feed
abbrev pub longest_strict : ℕ
longest_strict = longest_head_text + most_agents * longest_yard_text + 6
