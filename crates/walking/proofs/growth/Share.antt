-- The maximin share and the cut are found among the growth partitions. Assumes nothing.
use mathlib.Core.Path.{◌≡◌, refl, sym, ap, fun_ext, ◌∙◌}
use mathlib.Core.List.{List, []}
use Prim.Native.Nat.{ℕ, ◌+◌, ◌≤◌}
use native.Mathlib.Nat.{zero-add}
use native.Mathlib.Omega.{arith}
use lib.ListN.{length}
use Rattle.lists.specs.Dictionary.{greatest, first_best}
use Rattle.lists.proofs.sums.LeastOf.{least_of-cong}
use Rattle.growth.specs.Growth.{growth_partitions}
use Rattle.growth.proofs.Listed.{growth-inhabited}
use Rattle.maximin.specs.Partitions.{partitions}
use Rattle.maximin.specs.Share.{bundle_value, least_bundle, maximin_share, maximin_partition}
use Rattle.reach.specs.Loads.{least_loaded}
use Rattle.walk_steps.specs.Scan.{scan}
use Rattle.walk_steps.specs.declared.Best.{Best}
use Rattle.maximin.proofs.Partitions.{partitions-inhabited}
use Rattle.walk_steps.proofs.Scan.{best_of, scan-best}
use Rattle.walking.proofs.growth.Enough.{scan-growth}

module _ (n : ℕ) (values : List ℕ) (some : 1 ≤ n) where
  -- the values of the bundles of a partition, and the best of a list of partitions
  abbrev least : List ℕ → ℕ
  least = least_bundle n values

  abbrev unloaded : List ℕ → ℕ
  unloaded = least_loaded n (λ _. 0) values

  unloaded-least : unloaded ≡ least
  unloaded-least = fun_ext (λ l. least_of-cong (λ c. 0 + bundle_value c values l) (λ c. bundle_value c values l) n (λ c _ _. zero-add (bundle_value c values l)))

  none : Best
  none = record { goal = 0; partition = [] }

  -- a scan of the growth partitions and one of all partitions end at the same best
  best-growth : best_of least (λ l. l) (growth_partitions n (length values)) ≡ best_of least (λ l. l) (partitions n (length values))
  unfolding none
  best-growth =
      sym (scan-best least (λ l. l) none (growth_partitions n (length values)) (growth-inhabited n 0 (length values) some) (omega arith))
      ∙ ap (λ v. scan v (λ l. l) none (growth_partitions n (length values))) (sym unloaded-least)
      ∙ sym (scan-growth n 0 values (λ _. 0) (λ l. l) none (λ _ _. refl))
      ∙ ap (λ v. scan v (λ l. l) none (partitions n (length values))) unloaded-least
      ∙ scan-best least (λ l. l) none (partitions n (length values)) (partitions-inhabited n (length values) some) (omega arith)

  -- the best over the growth partitions is the share
  pub greatest-growth : greatest (least_bundle n values) (growth_partitions n (length values)) ≡ maximin_share n values
  unfolding maximin_share
  greatest-growth = omega (arith, ap (λ b. b.goal) best-growth)

  -- the first growth partition that reaches it is the cut
  pub first_best-growth : first_best (least_bundle n values) (growth_partitions n (length values)) ≡ maximin_partition n values
  unfolding maximin_share maximin_partition
  first_best-growth = ap (λ b. b.partition) best-growth
