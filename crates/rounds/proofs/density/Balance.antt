-- Density balance: items that are left keep the part top / bottom of the share, where those gone are worth little. Assumes nothing.
use mathlib.Core.Path.{◌≡◌, refl, ap}
use mathlib.Core.List.{List, [], ◌∷◌}
use mathlib.Core.List.Sublistᴰ.{cons as skip}
use mathlib.Core.List.Sublistᴰ.{cons-cons as keep}
use mathlib.Core.List.Sublistᴰ.{slnil as done}
use mathlib.Core.List.{Sublistᴰ as Sublist}
use Prim.Native.Nat.{ℕ, ◌+◌, ◌*◌, ◌≤◌}
use native.Mathlib.Nat.{le_trans, le_of_eq, mul-le-mul_left, mul-add}
use native.Mathlib.Omega.{arith}
use Rattle.lists.specs.Lists.{range}
use Rattle.lists.specs.Sums.{total}
use Rattle.lists.proofs.ranges.Ranges.{range-bounds}
use Rattle.lists.proofs.sums.LeastOf.{least_of-le, least_of-attained}
use Rattle.maximin.specs.Share.{bundle_value, least_bundle, maximin_share, maximin_partition}
use Rattle.maximin.proofs.Laws.{least_bundle-le-maximin_share, maximin_partition-within, least_bundle-maximin_partition}
use Rattle.terms.specs.declared.Terms.{Terms}
use Rattle.rounds.proofs.density.Deficit.{deficit, deficit-le-total}
use Rattle.rounds.proofs.density.Partition.{PartitionByItems, empty, place, partition_by_items-length, partition_by_items-within, within-partition_by_items}
use Rattle.rounds.proofs.density.Regroup.{bundle_values, length-bundle_values, refines-bundle_values, total-bundle_values-le}
use Rattle.terms.specs.Allowed.{AtMostStandard}
use Rattle.rounds.proofs.density.Terms.{bottom, Reaches, reaches-mono, reaches-terms, supply-terms}
use Rattle.rounds.proofs.density.Splitting.{Splits, splits-refine}
use Rattle.rounds.proofs.density.Core.{Supplied, splits-supplied}

-- a partition of all values, parted into what it does with the values inside a sub-list and with those outside
record Parted (n : ℕ) (l values inside : List ℕ) : Type 0 where
  outside : List ℕ
  inner : List ℕ
  outer : List ℕ
  inner_partition : PartitionByItems n inner inside
  outer_partition : PartitionByItems n outer outside
  same_total : total inside + total outside ≡ total values
  same_value : (c : ℕ) → bundle_value c inside inner + bundle_value c outside outer ≡ bundle_value c values l

parted : {n : ℕ} {l values inside : List ℕ} → Sublist inside values → PartitionByItems n l values → Parted n l values inside
parted done empty = record { outside = []; inner = []; outer = []; inner_partition = empty; outer_partition = empty; same_total = refl; same_value = λ c. refl }
parted (skip s) (place {c = d} {x} h k r) =
    let p = parted s r in
    record {
      outside = x ∷ p.outside;
      inner = p.inner;
      outer = d ∷ p.outer;
      inner_partition = p.inner_partition;
      outer_partition = place h k p.outer_partition;
      same_total = omega (arith, p.same_total);
      same_value = λ c. omega (arith, p.same_value c);
    }
parted (keep {a = y} e s) (place {c = d} {x} h k r) =
    let p = parted s r in
    record {
      outside = p.outside;
      inner = d ∷ p.inner;
      outer = p.outer;
      inner_partition = place h k p.inner_partition;
      outer_partition = p.outer_partition;
      same_total = omega (arith, p.same_total, e);
      same_value = λ c. rw e (omega (arith, p.same_value c));
    }

-- what the bundles inside the sub-list lack to the least bundle is outside it
deficit-parted : {n : ℕ} {l values inside : List ℕ} (p : Parted n l values inside) → deficit (least_bundle n values l) (bundle_values n inside p.inner) ≤ total p.outside
deficit-parted {n} {l} {values} {inside} p =
    le_trans
    (deficit-le-total (least_bundle n values l) (λ c. bundle_value c inside p.inner) (λ c. bundle_value c p.outside p.outer) (range 1 n)
    (λ c m. let bounds = range-bounds 1 n m in
    omega (arith, least_of-le (λ d. bundle_value d values l) n c bounds.0 (omega arith), p.same_value c)))
    (total-bundle_values-le p.outer_partition)

-- a split bounds the share from below
splits-share : {N β n : ℕ} {values : List ℕ} → 1 ≤ n → Splits N β n values → Reaches N β (maximin_share n values)
splits-share {N} {β} {n} {values} h s =
    let (c, lo, hi, least) = least_of-attained (λ d. bundle_value d values s.partition) n h in
    let r = s.is_partition in
    reaches-mono N β (le_trans (le_of_eq least) (least_bundle-le-maximin_share n values s.partition (partition_by_items-within r) (partition_by_items-length r))) (s.reaches c lo hi)

-- n bundles of N = n + m, by allowed terms
module _ (N n m : ℕ) (terms : Terms) (allowed : AtMostStandard N terms) (some-agents : 1 ≤ n) (of-all : n + m ≡ N) where
  pub density-balance : (values inside : List ℕ) → Sublist inside values
      → terms.bottom * total values ≤ terms.bottom * total inside + m * (terms.top * maximin_share N values)
      → terms.top * maximin_share N values ≤ terms.bottom * maximin_share n inside
  density-balance values inside s h =
      reaches-terms N terms allowed β (maximin_share n inside)
      (splits-share some-agents (splits-refine (refines-bundle_values p.inner_partition) (splits-supplied (bundle_values N inside p.inner) supplied)))
    where
      β : ℕ
      β = maximin_share N values

      l : List ℕ
      l = maximin_partition N values

      best : PartitionByItems N l values
      best = let w = maximin_partition-within N values (omega arith) in within-partition_by_items l values w.0 w.1

      p : Parted N l values inside
      p = parted s best

      lacks : deficit β (bundle_values N inside p.inner) ≤ total p.outside
      lacks = rw (least_bundle-maximin_partition N values (omega arith)) at (deficit-parted p)

      gone : terms.bottom * total p.outside ≤ m * (terms.top * β)
      gone = omega (arith, h, mul-add terms.bottom (total inside) (total p.outside), ap (λ v. terms.bottom * v) p.same_total)

      supplied : Supplied N β n m 0 (bundle_values N inside p.inner)
      supplied =
          record {
            groups = some-agents;
            few = omega arith;
            count = omega (arith, length-bundle_values N inside p.inner);
            supply = le_trans (mul-le-mul_left (bottom N) (omega (arith, lacks))) (supply-terms N terms allowed (total p.outside) m β gone);
          }
