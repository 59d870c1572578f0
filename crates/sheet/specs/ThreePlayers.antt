-- The values of the three players of document 000, section 2, read row by row as items 1 to 12. Assumes nothing: these are definitions.
use Rattle.std.specs.Prelude.{List, [], ◌∷◌, ℕ}

abbrev pub players : List (List ℕ)
players =
    (1017003 ∷ 1024999 ∷ 1011999 ∷ 1000999 ∷ 1002000 ∷ 1022000 ∷ 1003000 ∷ 1028000 ∷ 1011000 ∷ 1000000 ∷ 1021000 ∷ 1023000 ∷ [])
    ∷ (1017003 ∷ 1024999 ∷ 1012000 ∷ 1001000 ∷ 1001999 ∷ 1022000 ∷ 1003000 ∷ 1028000 ∷ 1010999 ∷ 1000000 ∷ 1021000 ∷ 1023000 ∷ [])
    ∷ (1017003 ∷ 1025000 ∷ 1011999 ∷ 1001000 ∷ 1002000 ∷ 1022000 ∷ 1002999 ∷ 1028000 ∷ 1011000 ∷ 1000000 ∷ 1021000 ∷ 1022999 ∷ [])
    ∷ []
