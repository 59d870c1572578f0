-- A partition of the items 1 .. m into n bundles allocates them: each item is in one bundle. Assumes nothing.
use mathlib.Core.Path.{◌≡◌, sym, ap, ◌∙◌}
use mathlib.Core.Bool.{not}
use mathlib.Core.List.Memᴰ
use mathlib.Core.List.{List, map, map-map, Memᴰ as Mem}
use mathlib.Core.List.{Sublistᴰ as Sublist}
use Prim.Native.Nat.{ℕ}
use native.Mathlib.Omega.{arith}
use lib.Dec.{eqb}
use lib.ListN.{length, length-map}
use Rattle.lists.specs.Lists.{range, elem, Within}
use Rattle.lists.specs.Sums.{total, sum_over}
use Rattle.lists.proofs.ranges.Ranges.{in-range, range-bounds, length-range, within-mem}
use Rattle.lists.proofs.members.Counting.{sublist-mem}
use Rattle.lists.proofs.members.Distinct.{mem-elem, range-distinct}
use Rattle.lists.proofs.sums.InOneList.{in-one-list}
use Rattle.sheet.specs.Allocations.{Allocates}
use Rattle.bundling.specs.Bundles.{bundle, all_bundles}
use Rattle.bundling.proofs.Bundles.{items_in-sublist, items_in-none}
use Rattle.bundling.proofs.Sums.{sum_over-handed}

module _ (n m : ℕ) (partition : List ℕ) where
  -- each bundle is a sub-list of the items
  pub all_bundles-sublist : (b : List ℕ) → Mem b (all_bundles n m partition) → Sublist b (range 1 m)
  all_bundles-sublist b mb =
      let (c, _, e) = Memᴰ.of_map (bundle (range 1 m) partition) (range 1 n) mb in
      rw (← e) (items_in-sublist (eqb c) (range 1 m) partition)

  pub all_bundles-allocate : Within n partition → length partition ≡ m → Allocates n m (all_bundles n m partition)
  all_bundles-allocate within places =
      record {
        bundle_each = length-map (range 1 n) (bundle (range 1 m) partition) ∙ length-range 1 n;
        item_in_one_bundle = λ k lo hi. in-one-list m (all_bundles n m partition) all-given k (in-range 1 m k lo (omega arith));
        no_other_item = λ b mb k mk. omega (arith, range-bounds 1 m (sublist-mem (all_bundles-sublist b mb) mk));
      }
    where
      all-given : (w : ℕ → ℕ) → total (map (sum_over w) (all_bundles n m partition)) ≡ sum_over w (range 1 m)
      all-given w =
          let none_left = items_in-none (λ c. not (elem c (range 1 n))) (range 1 m) partition (λ c mc. ap not (mem-elem (within-mem n partition within c mc))) in
          omega (
            arith,
            ap total (map-map (sum_over w) (bundle (range 1 m) partition) (range 1 n)),
            sum_over-handed w (range 1 n) (range 1 m) partition (range-distinct 1 n) (places ∙ sym (length-range 1 m)),
            ap (sum_over w) none_left,
          )
