-- The text of a division as the code has it is the division's printed text. Assumes nothing.
use mathlib.Core.Path.{◌≡◌, ◌∙◌}
use mathlib.Core.List.{List, [], map, Memᴰ as Mem}
use mathlib.Core.List.Sublistᴰ.{trans as sublist-trans}
use Prim.Native.Nat.{ℕ, ◌-◌, ◌≤◌}
use native.Mathlib.Omega.{arith}
use lib.Dec.{eqb}
use lib.ListN.{length, length-map, get_or-map}
use Rattle.lists.specs.Lists.{range, nth, zeros, padded}
use Rattle.lists.proofs.ranges.Ranges.{range-bounds, length-range, range-sublist}
use Rattle.lists.proofs.places.Padding.{nth-padded}
use Rattle.lists.proofs.members.FlatMap.{flat_map-cong}
use Rattle.lists.proofs.places.Defaults.{get_d_default}
use Rattle.lists.proofs.sums.Totals.{map-cong}
use Rattle.sheet.specs.Limits.{most_agents, most_items, set_bits}
use Rattle.sheet.specs.Contents.{Contents}
use Rattle.sheet.specs.Sets.{items_of, set_of}
use Rattle.sheet.proofs.sets.Bundles.{nth-set-items}
use Rattle.cut.specs.Outcome.{placed}
use Rattle.rounds.specs.Division.{Division}
use Rattle.shares.specs.Stored.{blank_cut}
use Rattle.division.specs.Stored.{stored}
use Rattle.bundling.specs.Bundles.{bundle, all_bundles}
use Rattle.bundling.proofs.Bundles.{items_in-append}
use Rattle.printing.specs.Printed.{all_lines, agent_line, printed}
use Rattle.printed_division.specs.OutcomeText.{outcome_line, outcome_text}
use Rattle.printing.proofs.printed.Printable.{Printable}
use Rattle.printed_lines.proofs.BeforeZero.{before_zero-padded}

-- zeros behind a partition are left out
all_bundles-padded : (n m : ℕ) (partition : List ℕ) → length partition ≡ m → all_bundles n m (placed partition) ≡ all_bundles n m partition
all_bundles-padded n m partition same =
    map-cong (bundle (range 1 m) (placed partition)) (bundle (range 1 m) partition) (range 1 n)
    (λ c mc. items_in-append (eqb c) (range 1 m) partition (zeros (most_items - length partition)) (omega (arith, length-range 1 m)))

module _ (sheet : Contents) (d : Division) (few : sheet.items ≤ most_items) (p : Printable sheet.agents sheet.items d) where
  abbrev n : ℕ
  n = sheet.agents

  abbrev m : ℕ
  m = sheet.items

  -- agent i's cut in the array
  nth_cut : (i : ℕ) → Mem i (range 1 n) → nth [] (padded most_agents blank_cut (map placed d.cuts)) i ≡ placed (nth [] d.cuts i)
  nth_cut i in_use =
      let b = range-bounds 1 n in_use in
      let each : length (map placed d.cuts) ≡ n = length-map d.cuts placed ∙ p.cut_each in
      nth-padded most_agents blank_cut [] (map placed d.cuts) (rw each in_use)
      ∙ get_d_default [] blank_cut (map placed d.cuts) (i - 1) (omega arith)
      ∙ get_or-map placed d.cuts (i - 1) []

  -- its bundle
  nth-bundle : (i : ℕ) → Mem i (range 1 n) → items_of (nth 0 (padded most_agents 0 (map set_of d.bundles)) i) ≡ nth [] d.bundles i
  nth-bundle i in_use = nth-set-items n d.bundles p.bundle_each in_use (sublist-trans (p.of_items i in_use) (range-sublist 1 m set_bits (omega arith)))

  nth-worth : (i : ℕ) → Mem i (range 1 n) → nth 0 (padded most_agents 0 d.worths) i ≡ nth 0 d.worths i
  nth-worth i in_use = nth-padded most_agents 0 0 d.worths (rw p.worth_each in_use)

  nth-share : (i : ℕ) → Mem i (range 1 n) → nth 0 (padded most_agents 0 d.shares) i ≡ nth 0 d.shares i
  nth-share i in_use = nth-padded most_agents 0 0 d.shares (rw p.share_each in_use)

  outcome_line-divided : (i : ℕ) → Mem i (range 1 n)
      → let o = stored d in outcome_line n m o.bundles o.worths o.shares o.cuts i ≡ agent_line sheet d i
  outcome_line-divided i in_use =
      rw (nth-bundle i in_use, nth-worth i in_use, nth-share i in_use, nth_cut i in_use, all_bundles-padded n m (nth [] d.cuts i) (p.entry_each i in_use))

  -- the text of a division as the code has it
  pub outcome_text-divided : outcome_text n m (stored d) ≡ printed sheet d
  unfolding outcome_text printed all_lines
  outcome_text-divided =
      let o = stored d in
      rw (flat_map-cong (outcome_line n m o.bundles o.worths o.shares o.cuts) (agent_line sheet d) (range 1 n) outcome_line-divided, before_zero-padded n (most_agents - length d.cutters) d.cutters p.cutters_within)
