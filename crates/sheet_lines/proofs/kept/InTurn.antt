-- The loops over the marks of a line and over the yard lines, before any is read. Assumes nothing.
use mathlib.Core.Path.{◌≡◌, refl, ap, ◌∙◌}
use mathlib.Core.List.{List}
use mathlib.Core.Bool.{Bool, true, ◌&&◌}
use Rattle.std.specs.Prelude.{Option, None, Some, map}
use Prim.Native.Nat.{ℕ, ◌≤◌}
use native.Mathlib.Omega.{arith}
use lib.ListN.{length, set}
use Rattle.lists.specs.Lists.{all, padded}
use Rattle.sheet.specs.Limits.{most_agents, most_items, greatest_mark, mark_digits, blank_row, blank_table}
use Rattle.tokens.specs.Tokens.{Token}
use Rattle.tokeniser.specs.declared.Cursor.{Cursor}
use Rattle.lexing.specs.Forms.{◌>>=◌}
use Rattle.lexing.specs.Numbers.{number}
use Rattle.lexing.specs.Results.{found_from}
use Rattle.lexing.proofs.readers.Gathered.{gathered, gathered_from, none-gathered}
use Rattle.sheet_lines.specs.Grammar.{marks, yard_line, yard_lines, body}
use Rattle.sheet_lines.specs.Marks.{allowed, allowed_row}
use Rattle.sheet_lines.specs.Kept.{reduced}
use Rattle.sheet_lines.specs.Results.{read_body, body_from}
use Rattle.sheet_lines.specs.internal.Results.{read_marks, marks_from}
use Rattle.sheet_lines.specs.declared.yards.Line.{Line}
use Rattle.sheet_lines.specs.declared.body.Body.{Body}
use Rattle.sheet_lines.proofs.kept.Tested.{all-gathered}
use Rattle.sheet_lines.proofs.kept.StoredTable.{rows-padded}

-- what is kept of marks, and with one more mark
abbrev pub row_read : Bool → List ℕ → Line
row_read passed row = record { allowed = passed; row = row }

abbrev pub mark_stored : ℕ → Line → ℕ → Line
mark_stored k line mark = row_read (line.allowed && allowed greatest_mark mark) (set line.row k (reduced mark))

-- what is kept of yard lines, and with one more line
abbrev pub rows_read : Bool → List (List ℕ) → Body
rows_read passed table = record { allowed = passed; table = table }

abbrev pub line_stored : ℕ → Body → List ℕ → Body
line_stored k lines row = rows_read (lines.allowed && allowed_row greatest_mark row) (set lines.table k (padded most_items 0 (map reduced row)))

marks-gathered : (l : List ℕ) → length l ≤ most_items → read_marks l ≡ gathered mark_stored 0 (row_read true blank_row) l
marks-gathered l few = all-gathered (allowed greatest_mark) reduced row_read mark_stored (λ k passed row mark. refl) most_items 0 l few

rows-gathered : (rows : List (List ℕ)) → length rows ≤ most_agents → read_body (record { rows = rows }) ≡ gathered line_stored 0 (rows_read true blank_table) rows
rows-gathered rows few =
    ap (rows_read (all (allowed_row greatest_mark) rows)) (rows-padded rows)
    ∙ all-gathered (allowed_row greatest_mark) (λ row. padded most_items 0 (map reduced row)) rows_read line_stored (λ k passed table row. refl) most_agents blank_row rows few

module _ (s : List ℕ) (c : Cursor) (items : ℕ) where
  -- the marks of a line, by what is kept of the first k and the tokens that are left
  abbrev pub marks_gathered : ℕ → Line → List Token → Option (Line × Cursor)
  marks_gathered k line ts = gathered_from (λ piece. number mark_digits) mark_stored s c items k line ts

  -- the yard lines, by what is kept of the first k and the tokens that are left
  abbrev pub lines_gathered : ℕ → ℕ → Body → List Token → Option (Body × Cursor)
  lines_gathered agents k lines ts = gathered_from (yard_line mark_digits items) line_stored s c agents k lines ts

  module _ (ts : List Token) where
    pub no-mark-gathered : items ≤ most_items → marks_from s c (marks mark_digits items ts) ≡ marks_gathered 0 (row_read true blank_row) ts
    no-mark-gathered few = none-gathered _ _ s c items read_marks (row_read true blank_row) ts (λ l e. marks-gathered l (omega arith))

    pub no-line-gathered : (agents : ℕ) → agents ≤ most_agents → body_from s c (body mark_digits agents items ts) ≡ lines_gathered agents 0 (rows_read true blank_table) ts
    unfolding body found_from
    no-line-gathered agents few =
        go (yard_lines mark_digits agents items ts)
        ∙ none-gathered _ _ s c agents (λ rows. read_body (record { rows = rows })) (rows_read true blank_table) ts (λ rows e. rows-gathered rows (omega arith))
      where
        go : (o : Option (List (List ℕ) × List Token)) → body_from s c (o >>= (λ r. Some (record { rows = r.0 }, r.1))) ≡ found_from (λ rows. read_body (record { rows = rows })) s c o
        go None = refl
        go (Some r) = refl
