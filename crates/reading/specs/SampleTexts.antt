-- The texts of sample sheet a of document 01 that theorems read and what they carry, and the text of the three players' sheet.
-- Assumes nothing: these are definitions.
use Rattle.std.specs.Prelude.{List, [], ◌∷◌, ℕ}
use Rattle.text.specs.Bytes.{bytes}
use Rattle.sheet.specs.Contents.{Contents}
use Rattle.sheet_lines.specs.Kept.{table_of}

-- sheet a in the strict layout (samples/a.sheet)
abbrev pub sheet_text_a : List ℕ
sheet_text_a = bytes "(sheet (yards 2) (pieces 3))\n(yard 1 (marks 5 3 4))\n(yard 2 (marks 6 2 2))\n(end)\n"

-- sheet a as a yard would type it (samples/typed.sheet)
abbrev pub typed_sheet_a : List ℕ
typed_sheet_a =
    bytes "; Felling at the mill pond: two yards, three pieces.\n\n( sheet (yards 2)(pieces 3) )\n\n   ;        oak  ash  elm\n( yard 1 (marks 5    3    4 ) )   ; Holm's yard\n( yard 2 (marks 6    2    2 ) )   ; Brook yard, marked in the rain\n(end)\n"

-- what both carry
abbrev pub contents_a : Contents
contents_a = record { agents = 2; items = 3; table = table_of ((5 ∷ 3 ∷ 4 ∷ []) ∷ (6 ∷ 2 ∷ 2 ∷ []) ∷ []) }

-- the sheet of the three players of document 000, section 2 (samples/three_players.sheet)
abbrev pub three_players_sheet : List ℕ
three_players_sheet = bytes "(sheet (yards 3) (pieces 12))\n(yard 1 (marks 1017003 1024999 1011999 1000999 1002000 1022000 1003000 1028000 1011000 1000000 1021000 1023000))\n(yard 2 (marks 1017003 1024999 1012000 1001000 1001999 1022000 1003000 1028000 1010999 1000000 1021000 1023000))\n(yard 3 (marks 1017003 1025000 1011999 1001000 1002000 1022000 1002999 1028000 1011000 1000000 1021000 1022999))\n(end)\n"
