-- How long the lines of a printed division are, and the whole. Assumes nothing.
use mathlib.Core.Path.{ap}
use mathlib.Core.List.{List, [], ◌∷◌, map, flat_map, Memᴰ as Mem}
use mathlib.Core.List.{Sublistᴰ as Sublist}
use Prim.Native.Nat.{ℕ, ◌+◌, ◌*◌, ◌^◌, ◌≤◌, ◌<◌}
use native.Mathlib.Omega.{arith}
use lib.ListN.{length, length-append}
use Rattle.lists.specs.Lists.{range}
use Rattle.lists.specs.Sums.{total, sum_over}
use Rattle.lists.proofs.ranges.Ranges.{length-range, range-bounds}
use Rattle.lists.proofs.members.Counting.{sublist-mem, length-sublist}
use Rattle.lists.proofs.sums.Totals.{sum_over-le}
use Rattle.lists.proofs.members.FlatMap.{length-flat_map-le}
use Rattle.text.proofs.Decimal.{decimal-length}
use Rattle.text.proofs.Spaced.{spaced, length-spaced_numbers, sum_over-spaced}
use Rattle.writing.proofs.Lengths.{length-group}
use Rattle.sheet.specs.Limits.{most_items, sum_digits}
use Rattle.printed_lines.specs.PrintedLines.{head_line, pile_group, worth_and_share, cut_pile, cut_group, printed_yard, all_lines}

length-head_line : (agents items grade : ℕ) → agents < 10 → items < 100 → grade < 10 → length (head_line agents items grade) ≤ 43
unfolding head_line
length-head_line agents items grade few few_items small =
    simp length-append
    (omega (arith, decimal-length agents 1 (omega arith) few, decimal-length items 2 (omega arith) few_items, decimal-length grade 1 (omega arith) small))

length-worth_and_share : (worth share : ℕ) → worth < 10 ^ sum_digits → share < 10 ^ sum_digits → length (worth_and_share worth share) ≤ 18 + 2 * sum_digits
unfolding worth_and_share
length-worth_and_share worth share small small-share =
    simp length-append (omega (arith, decimal-length worth sum_digits (omega arith) small, decimal-length share sum_digits (omega arith) small-share))

-- a cut has a space and two brackets for each pile, and a space at most and the digits for each item
pub length-cut_group : (cut : List (List ℕ)) → length (cut_group cut) ≤ 6 + 3 * length cut + total (map (sum_over spaced) cut)
unfolding cut_group flat_map
length-cut_group cut = simp length-append (omega (arith, piles cut))
  where
    piles : (cut : List (List ℕ)) → length (flat_map cut_pile cut) ≤ 3 * length cut + total (map (sum_over spaced) cut)
    piles [] = omega arith
    piles (pile ∷ cut) = omega (arith, length-append (cut_pile pile) (flat_map cut_pile cut), length-group pile, piles cut)

-- some of the items 1 .. m, each in at most two digits
module _ (m : ℕ) (few_items : m ≤ most_items) {pile : List ℕ} (s : Sublist pile (range 1 m)) where
  pub sum_over-spaced-items : sum_over spaced pile ≤ 3 * most_items
  sum_over-spaced-items =
      omega (arith, sum_over-spaced 2 pile (omega arith) (λ k mk. let b = range-bounds 1 m (sublist-mem s mk) in omega arith), length-sublist s, length-range 1 m)

  length-pile_group : length (pile_group pile) ≤ 7 + 3 * most_items
  unfolding pile_group
  length-pile_group = simp length-append (omega (arith, length-spaced_numbers pile, sum_over-spaced-items))

  pub length-printed_yard : (agent worth share : ℕ) (cut : List (List ℕ)) → agent < 10 → worth < 10 ^ sum_digits → share < 10 ^ sum_digits
      → length (printed_yard agent pile worth share cut) ≤ 27 + 2 * sum_digits + (7 + 3 * most_items) + length (cut_group cut)
  unfolding printed_yard
  length-printed_yard agent worth share cut few small small-share =
      simp length-append (omega (arith, decimal-length agent 1 (omega arith) few, length-pile_group, length-worth_and_share worth share small small-share))

-- the whole, where no line of an agent is longer than so many bytes
pub length-all_lines : (agents items grade : ℕ) (line : ℕ → List ℕ) (cutters : List ℕ) (longest : ℕ) → agents < 10 → items < 100 → grade < 10
    → ((i : ℕ) → Mem i (range 1 agents) → length (line i) ≤ longest) → length (all_lines agents items grade line cutters) ≤ 43 + agents * longest + length cutters + 6
unfolding all_lines
length-all_lines agents items grade line cutters longest few few_items small short =
    simp length-append
    (omega (
      arith,
      length-head_line agents items grade few few_items small,
      length-flat_map-le line (λ i. longest) (range 1 agents) short,
      sum_over-le (λ i. longest) 1 longest (range 1 agents) (λ i in_use. omega arith),
      ap (λ n. n * longest) (length-range 1 agents),
    ))
