-- The text of sample sheet c of document 01 with its division behind it (samples/judge/c.txt). Assumes nothing: these are definitions.
use Rattle.std.specs.Prelude.{List, ◌++◌, ℕ}
use Rattle.text.specs.Bytes.{bytes}

abbrev pub sheet_c : List ℕ
sheet_c = bytes "(sheet (yards 3) (pieces 4))\n(yard 1 (marks 1 1 1 1))\n(yard 2 (marks 4 4 3 1))\n(yard 3 (marks 1 1 1 1))\n(end)\n"

-- "a division as the box prints it, but without the cutters line" (document 02, order 5)
abbrev pub division_c : List ℕ
division_c =
    bytes "(division (yards 3) (pieces 4) (grade 4))\n"
    ++ bytes "(yard 1 (pile 1 2) (worth 2) (share 1) (cut (1 2) (3) (4)))\n"
    ++ bytes "(yard 2 (pile 3) (worth 3) (share 4) (cut (1) (2) (3 4)))\n"
    ++ bytes "(yard 3 (pile 4) (worth 1) (share 1) (cut (1 2) (3) (4)))\n"
    ++ bytes "(end)\n"

abbrev pub sheet_c_and_division : List ℕ
sheet_c_and_division = sheet_c ++ division_c
