-- The agent who holds each item of an allocation: the list of these agents makes its bundles. Assumes nothing.
use mathlib.Core.Path.{◌≡◌, sym, ap, subst, ◌∙◌}
use mathlib.Core.Bool.{Bool}
use mathlib.Core.List.Memᴰ
use mathlib.Core.List.{List, [], map, Memᴰ as Mem}
use mathlib.Core.List.{Sublistᴰ as Sublist}
use Prim.Native.Nat.{ℕ}
use native.Mathlib.Omega.{arith}
use lib.Dec.{eqb}
use lib.ListN.{length-map}
use Rattle.lists.specs.Lists.{range, nth, count, elem}
use Rattle.lists.proofs.ranges.Ranges.{range-bounds, length-range, map-nth-range, nth-mem}
use Rattle.lists.proofs.members.Counting.{count_map}
use Rattle.lists.proofs.members.Congruence.{filter-cong}
use Rattle.lists.proofs.members.Distinct.{filter-elem, range-distinct}
use Rattle.lists.proofs.members.Only.{only, only-mem, eqb-only}
use Rattle.lists.proofs.dictionary.Listed.{in-lists_over}
use Rattle.lists.proofs.sums.Totals.{map-cong}
use Rattle.sheet.specs.Allocations.{Allocates}
use Rattle.maximin.specs.Partitions.{partitions}
use Rattle.bundling.specs.Bundles.{bundle}
use Rattle.bundling.proofs.Bundles.{items_in-map}
use Rattle.exact_division.specs.Exact.{bundles_by}

module _ (n m : ℕ) (bundles : List (List ℕ)) where
  -- whether the agent's bundle has item k
  abbrev holds : ℕ → ℕ → Bool
  holds k agent = elem k (nth [] bundles agent)

  -- the agent whose bundle has item k
  abbrev holder : ℕ → ℕ
  holder k = only (holds k) (range 1 n)

  abbrev pub holders : List ℕ
  holders = map holder (range 1 m)

  module _ (allocates : Allocates n m bundles) where
    one_holds : (k : ℕ) → Mem k (range 1 m) → count (holds k) (range 1 n) ≡ 1
    one_holds k mk =
        let b = range-bounds 1 m mk in
        sym (count_map (elem k) (nth [] bundles) (range 1 n))
        ∙ ap (count (elem k)) (map-nth-range [] bundles n allocates.bundle_each)
        ∙ allocates.item_in_one_bundle k b.0 (omega arith)

    -- the holders are a way of giving each item to an agent
    pub holders-listed : Mem holders (partitions n m)
    holders-listed =
        subst (λ k. Mem holders (partitions n k)) (length-map (range 1 m) holder ∙ length-range 1 m)
        (in-lists_over (range 1 n) holders
        (λ c mc. let (k, mk, e) = Memᴰ.of_map holder (range 1 m) mc in
        subst (λ x. Mem x (range 1 n)) e (only-mem (holds k) (range 1 n) (one_holds k mk))))

    module _ (sublists : (bundle : List ℕ) → Mem bundle bundles → Sublist bundle (range 1 m)) where
      -- an agent's bundle is the items that it holds
      bundle-holders : (agent : ℕ) → Mem agent (range 1 n) → bundle (range 1 m) holders agent ≡ nth [] bundles agent
      bundle-holders agent ma =
          items_in-map (eqb agent) holder (range 1 m)
          ∙ filter-cong (λ k. eqb agent (holder k)) (λ k. holds k agent) (range 1 m) (λ k mk. eqb-only (holds k) (range 1 n) (one_holds k mk) agent ma)
          ∙ filter-elem (sublists (nth [] bundles agent) (nth-mem [] bundles n allocates.bundle_each ma)) (range-distinct 1 m)

      pub bundles_by-holders : bundles_by n m holders ≡ bundles
      bundles_by-holders = map-cong (bundle (range 1 m) holders) (nth [] bundles) (range 1 n) bundle-holders ∙ map-nth-range [] bundles n allocates.bundle_each
