-- The text that the code makes of the sets of an exact division is that of its bundles, and how long it is. Assumes nothing.
use mathlib.Core.Path.{◌≡◌, sym, ap, ◌∙◌}
use mathlib.Core.Bool.{true}
use mathlib.Core.List.{List, [], ◌∷◌, ◌++◌, map, map-map, flat_map, Memᴰ as Mem}
use mathlib.Core.List.Sublistᴰ.{trans as sublist-trans}
use mathlib.Core.List.{Sublistᴰ as Sublist}
use Prim.Native.Nat.{ℕ, ◌+◌, ◌*◌, ◌≤◌}
use native.Mathlib.Omega.{arith}
use lib.ListN.{length, length-map, length-append}
use Rattle.lists.specs.Lists.{range, nth, padded}
use Rattle.lists.specs.Sums.{total, sum_over}
use Rattle.lists.proofs.ranges.Ranges.{length-range, range-bounds, range-sublist, map-nth-range, nth-mem}
use Rattle.lists.proofs.ranges.RangeSublists.{rising-range-sublist}
use Rattle.lists.proofs.members.Distinct.{range-distinct}
use Rattle.lists.proofs.members.FlatMap.{flat_map-cong, flat_map-map}
use Rattle.text.specs.Bytes.{bytes}
use Rattle.text.proofs.Spaced.{spaced, sum_over-spaced}
use Rattle.sheet.specs.Limits.{most_agents, most_items, set_bits}
use Rattle.sheet.specs.Sets.{set_of}
use Rattle.sheet.specs.Contents.{Contents}
use Rattle.sheet.proofs.sets.Bundles.{nth-set-items}
use Rattle.bundling.specs.Bundles.{bundle}
use Rattle.bundling.proofs.Sums.{sum_over-handed}
use Rattle.writing.proofs.Lengths.{length-group}
use Rattle.exact_division.specs.Exact.{ExactDivision}
use Rattle.exact_division.proofs.Holders.{holders, bundles_by-holders}
use Rattle.exact_printing.specs.ExactText.{spaced_group, exact_text}
use Rattle.exact_printing.specs.Printing.{longest_exact}
use Rattle.exact_printing.specs.internal.SetsText.{set_group, sets_text}

-- a space and brackets for each bundle, and a number and one byte more for each of its items
length-groups : (bundles : List (List ℕ)) → length (flat_map spaced_group bundles) ≤ 3 * length bundles + total (map (sum_over spaced) bundles)
unfolding flat_map
length-groups [] = omega arith
length-groups (b ∷ bundles) = omega (arith, length-append (spaced_group b) (flat_map spaced_group bundles), length-group b, length-groups bundles)

module _ (sheet : Contents) (bundles : List (List ℕ)) (d : ExactDivision sheet bundles) (few_items : sheet.items ≤ most_items) where
  bundle-sublist : (b : List ℕ) → Mem b bundles → Sublist b (range 1 sheet.items)
  bundle-sublist b in_use = rising-range-sublist sheet.items b (d.items_rise b in_use) (d.allocates.no_other_item b in_use)

  -- the sets in the code's places name the bundles
  set_group-bundle : (i : ℕ) → Mem i (range 1 sheet.agents) → set_group (padded most_agents 0 (map set_of bundles)) i ≡ spaced_group (nth [] bundles i)
  set_group-bundle i in_use =
      let one = bundle-sublist (nth [] bundles i) (nth-mem [] bundles sheet.agents d.allocates.bundle_each in_use) in
      ap spaced_group (nth-set-items sheet.agents bundles d.allocates.bundle_each in_use (sublist-trans one (range-sublist 1 sheet.items set_bits (omega arith))))

  pub sets_text-exact : sets_text sheet.agents (padded most_agents 0 (map set_of bundles)) ≡ exact_text true bundles
  unfolding sets_text exact_text
  sets_text-exact =
      ap (λ t. bytes "(exact" ++ t ++ bytes ")\n")
      (flat_map-cong (set_group (padded most_agents 0 (map set_of bundles))) (λ i. spaced_group (nth [] bundles i)) (range 1 sheet.agents) set_group-bundle
      ∙ sym (flat_map-map spaced_group (nth [] bundles) (range 1 sheet.agents))
      ∙ ap (flat_map spaced_group) (map-nth-range [] bundles sheet.agents d.allocates.bundle_each))

  -- the bundles name each item once
  bundles-le-items : (w : ℕ → ℕ) → total (map (sum_over w) bundles) ≤ sum_over w (range 1 sheet.items)
  bundles-le-items w =
      let agents = holders sheet.agents sheet.items bundles in
      omega (
        arith,
        ap (λ bs. total (map (sum_over w) bs)) (bundles_by-holders sheet.agents sheet.items bundles d.allocates bundle-sublist),
        ap total (map-map (sum_over w) (bundle (range 1 sheet.items) agents) (range 1 sheet.agents)),
        sum_over-handed w (range 1 sheet.agents) (range 1 sheet.items) agents (range-distinct 1 sheet.agents) (length-map (range 1 sheet.items) _),
      )

  pub length-exact_text : sheet.agents ≤ most_agents → length (exact_text true bundles) ≤ longest_exact
  unfolding exact_text
  length-exact_text few =
      simp length-append
      (omega (
        arith,
        length-groups bundles,
        d.allocates.bundle_each,
        bundles-le-items spaced,
        sum_over-spaced 2 (range 1 sheet.items) (omega arith) (λ k mk. let b = range-bounds 1 sheet.items mk in omega arith),
        length-range 1 sheet.items,
      ))
