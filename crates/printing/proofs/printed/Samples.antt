-- The printed texts of the starred sheets a to f and i of document 01 and of a sheet of grade 2, by computation. In e and f a pile is empty,
-- and one in a cut. Assumes nothing.
use mathlib.Core.Path.{◌≡◌, refl, ◌∙◌}
use mathlib.Core.List.{List, [], ◌∷◌, ◌++◌, map, flat_map}
use Prim.Native.Nat.{ℕ}
use Rattle.lists.proofs.members.Maps.{map-alike}
use Rattle.text.specs.Bytes.{bytes}
use Rattle.text.specs.Decimal.{digits_in, decimal, spaced_numbers}
use Rattle.writing.specs.Filled.{filling}
use Rattle.sheet.specs.Answers.{accepted, and_then}
use Rattle.rounds.specs.Division.{answer}
use Rattle.shares.specs.Shares.{standard_allowance}
use Rattle.rounds.specs.SampleSheets.{starred, samples}
use Rattle.rounds.proofs.Samples.{samples-hold}
use Rattle.printing.specs.Printed.{head_line, pile_group, worth_and_share, cut_group, printed_yard, cutters_line, all_lines, printed}
use Rattle.printing.specs.Printing.{printing}

-- the texts of division's samples, in the same order
unfoldable pub texts : List (List ℕ)
texts =
    -- a
    (bytes "(division (yards 2) (pieces 3) (grade 3))\n"
    ++ bytes "(yard 1 (pile 1) (worth 5) (share 5) (cut (1) (2 3)))\n"
    ++ bytes "(yard 2 (pile 2 3) (worth 4) (share 4) (cut (1) (2 3)))\n"
    ++ bytes "(cutters 1)\n(end)\n")
    -- b
    ∷ (bytes "(division (yards 3) (pieces 4) (grade 3))\n"
    ++ bytes "(yard 1 (pile 3) (worth 1) (share 1) (cut (1 2) (3) (4)))\n"
    ++ bytes "(yard 2 (pile 1 2) (worth 12) (share 6) (cut (1) (2) (3 4)))\n"
    ++ bytes "(yard 3 (pile 4) (worth 2) (share 2) (cut (1 2) (3) (4)))\n"
    ++ bytes "(cutters 1 2)\n(end)\n")
    -- c
    ∷ (bytes "(division (yards 3) (pieces 4) (grade 4))\n"
    ++ bytes "(yard 1 (pile 1 2) (worth 2) (share 1) (cut (1 2) (3) (4)))\n"
    ++ bytes "(yard 2 (pile 3) (worth 3) (share 4) (cut (1) (2) (3 4)))\n"
    ++ bytes "(yard 3 (pile 4) (worth 1) (share 1) (cut (1 2) (3) (4)))\n"
    ++ bytes "(cutters 1)\n(end)\n")
    -- d
    ∷ (bytes "(division (yards 3) (pieces 4) (grade 3))\n"
    ++ bytes "(yard 1 (pile 3) (worth 1) (share 1) (cut (1 2) (3) (4)))\n"
    ++ bytes "(yard 2 (pile 1 2) (worth 16) (share 8) (cut (1) (2) (3 4)))\n"
    ++ bytes "(yard 3 (pile 4) (worth 1) (share 1) (cut (1 2) (3) (4)))\n"
    ++ bytes "(cutters 1 2)\n(end)\n")
    -- e
    ∷ (bytes "(division (yards 2) (pieces 1) (grade 3))\n"
    ++ bytes "(yard 1 (pile 1) (worth 7) (share 0) (cut (1) ()))\n"
    ++ bytes "(yard 2 (pile) (worth 0) (share 0) (cut (1) ()))\n"
    ++ bytes "(cutters 1)\n(end)\n")
    -- f
    ∷ (bytes "(division (yards 2) (pieces 2) (grade 1))\n"
    ++ bytes "(yard 1 (pile 1 2) (worth 0) (share 0) (cut (1 2) ()))\n"
    ++ bytes "(yard 2 (pile) (worth 0) (share 0) (cut (1 2) ()))\n"
    ++ bytes "(cutters 1)\n(end)\n")
    -- i
    ∷ (bytes "(division (yards 1) (pieces 3) (grade 1))\n"
    ++ bytes "(yard 1 (pile 1 2 3) (worth 12) (share 12) (cut (1 2 3)))\n"
    ++ bytes "(cutters 1)\n(end)\n")
    -- even
    ∷ (bytes "(division (yards 3) (pieces 3) (grade 2))\n"
    ++ bytes "(yard 1 (pile 1) (worth 1) (share 1) (cut (1) (2) (3)))\n"
    ++ bytes "(yard 2 (pile 2) (worth 1) (share 1) (cut (1) (2) (3)))\n"
    ++ bytes "(yard 3 (pile 3) (worth 3) (share 1) (cut (1) (2) (3)))\n"
    ++ bytes "(cutters 1)\n(end)\n")
    ∷ []

texts-printed : map (λ s. filling 255 (printed s.sheet s.division)) samples ≡ map accepted texts
unfolding texts starred flat_map printed all_lines head_line pile_group worth_and_share cut_group printed_yard cutters_line digits_in decimal spaced_numbers
texts-printed = refl

-- the tables of the samples are printed so; a buffer of 255 bytes has room for each
pub samples-printed : map (λ s. printing s.sheet standard_allowance 255) samples ≡ map accepted texts
unfolding printing
samples-printed =
    map-alike (λ s. answer s.sheet standard_allowance) (λ s. accepted s.division)
    (λ s a. and_then a (λ d. filling 255 (printed s.sheet d))) samples samples-hold
    ∙ texts-printed
