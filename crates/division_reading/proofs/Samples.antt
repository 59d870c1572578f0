-- The division of sheet a of document 01 without its cutters line, as printed and as typed by hand, and texts off the layout, by
-- computation. Assumes nothing.
use mathlib.Core.Path.{◌≡◌, refl}
use mathlib.Core.List.{List, [], ◌∷◌, map, flat_map}
use Rattle.std.specs.Prelude.{Option, None, Some}
use Prim.Native.String.{String}
use Rattle.text.specs.Bytes.{bytes}
use Rattle.tokens.specs.Lines.{on_first, lines, before_remark}
use Rattle.tokens.specs.Tokens.{extended, words, line_tokens, tokens}
use Rattle.lexing.specs.Forms.{follow, in_turn}
use Rattle.lexing.specs.Numbers.{number_after, number, digits_after, is_number}
use Rattle.sheet_lines.specs.Grammar.{end_line}
use Rattle.division_reading.specs.Stated.{Stated}
use Rattle.division_reading.specs.Grammar.{rising_items, bundle_after, bundle_in_turn, stated_amounts, division_line, division_head, division_text, reading_division}

-- what the division of sheet a states
abbrev pub division_a : Stated
division_a =
    record {
      grade = 3;
      lines = record { bundle = 1 ∷ []; worth = 5; share = 5; cut = (1 ∷ []) ∷ (2 ∷ 3 ∷ []) ∷ [] }
          ∷ record { bundle = 2 ∷ 3 ∷ []; worth = 4; share = 4; cut = (1 ∷ []) ∷ (2 ∷ 3 ∷ []) ∷ [] }
          ∷ [];
    }

-- of two yards and three pieces: each text with what is read of it
abbrev pub samples : List (String × Option Stated)
samples =
    ("(division (yards 2) (pieces 3) (grade 3))\n(yard 1 (pile 1) (worth 5) (share 5) (cut (1) (2 3)))\n(yard 2 (pile 2 3) (worth 4) (share 4) (cut (1) (2 3)))\n(end)\n", Some division_a)
    ∷ ("; from the website\n(division (yards 2)(pieces 3)( grade 3 ))\n\n(yard 1 (pile 1) (worth 5) (share 5) (cut (1)(2  3)))\n(yard 2 (pile 2 3) (worth 4) (share 4) (cut (1) (2 3) ) ) ; mine\n(end)\n  ", Some division_a)
    -- other counts
    ∷ ("(division (yards 3) (pieces 3) (grade 3))\n(yard 1 (pile 1) (worth 5) (share 5) (cut (1) (2 3)))\n(yard 2 (pile 2 3) (worth 4) (share 4) (cut (1) (2 3)))\n(end)\n", None)
    ∷ ("(division (yards 2) (pieces 4) (grade 3))\n(yard 1 (pile 1) (worth 5) (share 5) (cut (1) (2 3)))\n(yard 2 (pile 2 3) (worth 4) (share 4) (cut (1) (2 3)))\n(end)\n", None)
    ∷ ("(division (yards 2) (pieces 3) (grade 3))\n(yard 1 (pile 1) (worth 5) (share 5) (cut (1) (2 3) ()))\n(yard 2 (pile 2 3) (worth 4) (share 4) (cut (1) (2 3)))\n(end)\n", None)
    -- a grade of two digits, a worth of twelve
    ∷ ("(division (yards 2) (pieces 3) (grade 10))\n(yard 1 (pile 1) (worth 5) (share 5) (cut (1) (2 3)))\n(yard 2 (pile 2 3) (worth 4) (share 4) (cut (1) (2 3)))\n(end)\n", None)
    ∷ ("(division (yards 2) (pieces 3) (grade 3))\n(yard 1 (pile 1) (worth 100000000000) (share 5) (cut (1) (2 3)))\n(yard 2 (pile 2 3) (worth 4) (share 4) (cut (1) (2 3)))\n(end)\n", None)
    -- pieces that do not rise, in a pile and in a cut, and a piece not on the sheet
    ∷ ("(division (yards 2) (pieces 3) (grade 3))\n(yard 1 (pile 1) (worth 5) (share 5) (cut (1) (2 3)))\n(yard 2 (pile 3 2) (worth 4) (share 4) (cut (1) (2 3)))\n(end)\n", None)
    ∷ ("(division (yards 2) (pieces 3) (grade 3))\n(yard 1 (pile 1) (worth 5) (share 5) (cut (1) (2 2)))\n(yard 2 (pile 2 3) (worth 4) (share 4) (cut (1) (2 3)))\n(end)\n", None)
    ∷ ("(division (yards 2) (pieces 3) (grade 3))\n(yard 1 (pile 1) (worth 5) (share 5) (cut (1) (2 3)))\n(yard 2 (pile 2 3 4) (worth 4) (share 4) (cut (1) (2 3)))\n(end)\n", None)
    ∷ ("(division (yards 2) (pieces 3) (grade 3))\n(yard 1 (pile 0 1) (worth 5) (share 5) (cut (1) (2 3)))\n(yard 2 (pile 2 3) (worth 4) (share 4) (cut (1) (2 3)))\n(end)\n", None)
    -- lines out of turn, the cutters line, and something behind the last line
    ∷ ("(division (yards 2) (pieces 3) (grade 3))\n(yard 2 (pile 1) (worth 5) (share 5) (cut (1) (2 3)))\n(yard 1 (pile 2 3) (worth 4) (share 4) (cut (1) (2 3)))\n(end)\n", None)
    ∷ ("(division (yards 2) (pieces 3) (grade 3))\n(yard 1 (pile 1) (worth 5) (share 5) (cut (1) (2 3)))\n(yard 2 (pile 2 3) (worth 4) (share 4) (cut (1) (2 3)))\n(cutters 1)\n(end)\n", None)
    ∷ ("(division (yards 2) (pieces 3) (grade 3))\n(yard 1 (pile 1) (worth 5) (share 5) (cut (1) (2 3)))\n(yard 2 (pile 2 3) (worth 4) (share 4) (cut (1) (2 3)))\n(end)\n(end)\n", None)
    ∷ ("", None)
    ∷ []

pub samples-read : map (λ p. reading_division 2 3 (tokens (bytes p.0))) samples ≡ map (λ p. p.1) samples
unfolding reading_division division_text division_head division_line stated_amounts bundle_in_turn bundle_after rising_items end_line number_after number digits_after is_number follow in_turn on_first lines before_remark extended words line_tokens tokens flat_map
samples-read = refl

-- empty piles: `(pile)`, and `()` in a cut; each has the set 0
pub empty-piles-read :
    reading_division 2 1 (tokens (bytes "(division (yards 2) (pieces 1) (grade 3))\n(yard 1 (pile 1) (worth 7) (share 0) (cut (1) ()))\n(yard 2 (pile) (worth 0) (share 0) (cut () (1)))\n(end)\n"))
    ≡ Some
    (record {
      grade = 3;
      lines = record { bundle = 1 ∷ []; worth = 7; share = 0; cut = (1 ∷ []) ∷ [] ∷ [] }
          ∷ record { bundle = []; worth = 0; share = 0; cut = [] ∷ (1 ∷ []) ∷ [] }
          ∷ [];
    })
unfolding reading_division division_text division_head division_line stated_amounts bundle_in_turn bundle_after rising_items end_line number_after number digits_after is_number follow in_turn on_first lines before_remark extended words line_tokens tokens flat_map
empty-piles-read = refl
