-- How long the text of what a division states is, within the limits of a sheet. Assumes nothing.
use mathlib.Core.List.Memᴰ.{head as here}
use mathlib.Core.List.Memᴰ.{tail as there}
use mathlib.Core.List.{List, [], ◌∷◌, map, Memᴰ as Mem}
use mathlib.Core.List.{Sublistᴰ as Sublist}
use mathlib.Core.Path.{refl}
use Prim.Native.Nat.{ℕ, ◌+◌, ◌*◌, ◌≤◌}
use native.Mathlib.Nat.{mul-le-mul_right}
use native.Mathlib.Omega.{arith}
use lib.ListN.{length}
use Rattle.lists.specs.Lists.{range}
use Rattle.lists.specs.Sums.{total, sum_over}
use Rattle.lists.proofs.ranges.Ranges.{range-bounds}
use Rattle.text.proofs.Spaced.{spaced}
use Rattle.sheet.specs.Limits.{most_agents, most_items, sum_digits}
use Rattle.printed_lines.proofs.Lengths.{length-cut_group, sum_over-spaced-items, length-printed_yard, length-all_lines}
use Rattle.division_reading.specs.Stated.{Stated}
use Rattle.stated_truth.specs.Truth.{line_of}
use Rattle.division_reading.specs.Shape.{WellFormed, FewDigits}
use Rattle.stated_text.specs.StatedText.{line_text, stated_text}
use Rattle.stated_text.proofs.Lines.{line-mem, line-bundle, line-cut-each, line-cut-bundle}

-- the most bytes of a cut, in which each pile may have all items, and of a yard line with it
abbrev longest_cut : ℕ
longest_cut = 6 + most_agents * (3 + 3 * most_items)

abbrev longest_line : ℕ
longest_line = 27 + 2 * sum_digits + (7 + 3 * most_items) + longest_cut

-- the most bytes of the text: the head, a line for each yard, and (end) with the line feed
abbrev pub longest_stated : ℕ
longest_stated = 43 + most_agents * longest_line + 6

module _ (m : ℕ) (few_items : m ≤ most_items) where
  cut-items : (cut : List (List ℕ)) → ((b : List ℕ) → Mem b cut → Sublist b (range 1 m)) → total (map (sum_over spaced) cut) ≤ length cut * (3 * most_items)
  cut-items [] s = omega arith
  cut-items (b ∷ cut) s = omega (arith, sum_over-spaced-items m few_items (s b (here refl)), cut-items cut (λ c mc. s c (there mc)))

module _ (n m : ℕ) (d : Stated) (few : n ≤ most_agents) (few_items : m ≤ most_items) (shape : WellFormed n m d) (small : FewDigits d) where
  length-line : (i : ℕ) → Mem i (range 1 n) → length (line_text i (line_of d i)) ≤ longest_line
  length-line i in_use =
      let b = range-bounds 1 n in_use in
      let l = line_of d i in
      omega (
        arith,
        length-printed_yard m few_items (line-bundle n m d shape in_use) i l.worth l.share l.cut (omega arith) (small.worth_below l (line-mem n m d shape in_use)) (small.share_below l (line-mem n m d shape in_use)),
        length-cut_group l.cut,
        line-cut-each n m d shape in_use,
        cut-items m few_items l.cut (line-cut-bundle n m d shape in_use),
      )

  pub length-stated_text : length (stated_text n m d) ≤ longest_stated
  unfolding stated_text
  length-stated_text =
      omega (
        arith,
        length-all_lines n m d.grade (λ i. line_text i (line_of d i)) [] longest_line (omega arith) (omega arith) small.grade_below length-line,
        mul-le-mul_right longest_line few,
      )
