-- How long the printed text is. Assumes nothing.
use mathlib.Core.Path.{sym, ap, ◌∙◌, ◌≡◌}
use mathlib.Core.List.{List, [], map-map, Memᴰ as Mem}
use Prim.Native.Nat.{ℕ, ◌^◌, ◌≤◌, ◌<◌}
use native.Mathlib.Nat.{mul-le-mul_right}
use native.Mathlib.Omega.{arith}
use lib.ListN.{length, length-append, length-map}
use Rattle.lists.specs.Lists.{range, nth, Within}
use Rattle.lists.specs.Sums.{total, sum_over}
use Rattle.lists.proofs.ranges.Ranges.{length-range, range-bounds, within-mem}
use Rattle.lists.proofs.members.Distinct.{range-distinct}
use Rattle.text.proofs.Spaced.{spaced, length-spaced_numbers, sum_over-spaced}
use Rattle.sheet.specs.Limits.{most_agents, most_items, sum_digits}
use Rattle.sheet.specs.Contents.{Contents}
use Rattle.bundling.specs.Bundles.{bundle, all_bundles}
use Rattle.rounds.specs.Division.{Division}
use Rattle.bundling.proofs.Sums.{sum_over-handed}
use Rattle.printed_lines.proofs.Lengths.{length-cut_group, length-printed_yard, length-all_lines}
use Rattle.printing.specs.Printed.{cut_group, cutters_line, agent_line, printed}
use Rattle.printing.specs.Printing.{longest_cut, longest_printed_yard, longest_cutters, longest_printed}
use Rattle.printing.proofs.printed.Printable.{Printable}

length-cutters_line : (n : ℕ) (cutters : List ℕ) → n ≤ most_agents → Within n cutters → length cutters ≤ n → length (cutters_line cutters) ≤ longest_cutters
unfolding cutters_line
length-cutters_line n cutters few w fewer =
    simp length-append
    (omega (arith, length-spaced_numbers cutters, sum_over-spaced 1 cutters (omega arith) (λ c m. let b = range-bounds 1 n (within-mem n cutters w c m) in omega arith)))

-- the bundles of a cut name each item once
length_cut : (n m : ℕ) (partition : List ℕ) → n ≤ most_agents → m ≤ most_items → length partition ≡ m → length (cut_group (all_bundles n m partition)) ≤ longest_cut
length_cut n m partition few few_items same =
    omega (
      arith,
      length-cut_group (all_bundles n m partition),
      length-map (range 1 n) (bundle (range 1 m) partition),
      ap total (map-map (sum_over spaced) (bundle (range 1 m) partition) (range 1 n)),
      sum_over-handed spaced (range 1 n) (range 1 m) partition (range-distinct 1 n) (same ∙ sym (length-range 1 m)),
      sum_over-spaced 2 (range 1 m) (omega arith) (λ k mk. let b = range-bounds 1 m mk in omega arith),
      length-range 1 n,
      length-range 1 m,
    )

module _ (sheet : Contents) (d : Division) (few : sheet.agents ≤ most_agents) (few_items : sheet.items ≤ most_items) (p : Printable sheet.agents sheet.items d)
    (worth_small : (i : ℕ) → Mem i (range 1 sheet.agents) → nth 0 d.worths i < 10 ^ sum_digits)
    (share_small : (i : ℕ) → Mem i (range 1 sheet.agents) → nth 0 d.shares i < 10 ^ sum_digits) where
  abbrev n : ℕ
  n = sheet.agents

  abbrev m : ℕ
  m = sheet.items

  length-agent_line : (i : ℕ) → Mem i (range 1 n) → length (agent_line sheet d i) ≤ longest_printed_yard
  length-agent_line i in_use =
      let b = range-bounds 1 n in_use in
      let partition = nth [] d.cuts i in
      omega (
        arith,
        length-printed_yard m few_items (p.of_items i in_use) i (nth 0 d.worths i) (nth 0 d.shares i) (all_bundles n m partition) (omega arith) (worth_small i in_use) (share_small i in_use),
        length_cut n m partition few few_items (p.entry_each i in_use),
      )

  pub length-printed : length (printed sheet d) ≤ longest_printed
  unfolding printed
  length-printed =
      omega (
        arith,
        length-all_lines n m d.grade (agent_line sheet d) (cutters_line d.cutters) longest_printed_yard (omega arith) (omega arith) p.one_digit length-agent_line,
        mul-le-mul_right longest_printed_yard few,
        length-cutters_line n d.cutters few p.cutters_within p.few_cutters,
      )
