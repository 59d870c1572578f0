-- A goal that is out of reach, above a ceiling or by either count, is not reached by a partition's least bundle, counted up to the ceiling.
-- Assumes nothing.
use mathlib.Core.Path.{◌≡◌, refl}
use mathlib.Core.Bool.{Bool, true, false, cond}
use mathlib.Core.List.{List}
use Prim.Native.Nat.{ℕ, ◌≤◌, ◌<◌, min}
use native.Mathlib.Omega.{arith}
use lib.Dec.{ltb}
use lib.ListN.{length}
use borrow.Author.Tests.{ltb-true}
use Rattle.lists.specs.Sums.{total}
use Rattle.sheet.specs.Limits.{most_items, greatest_sum}
use Rattle.reach.specs.Loads.{least_loaded}
use Rattle.reach.specs.Pruning.{greatest_value, is_short, needs_more, is_out_of_reach}
use Rattle.reach.proofs.pruning.Threshold.{is_short-below-goal}
use Rattle.reach.proofs.pruning.Needed.{needs_more-below-goal}

pub is_out_of_reach-below-goal : (goal : ℕ) (load : ℕ → ℕ) (n : ℕ) (values l : List ℕ) (ceiling most : ℕ) → length values ≤ most_items → total values ≤ greatest_sum → greatest_value values ≤ most
    → is_out_of_reach ceiling goal load n values most ≡ true → min (least_loaded n load values l) ceiling < goal
is_out_of_reach-below-goal goal load n values l ceiling most few small greatest = go (ltb ceiling goal) refl (needs_more goal load n values most) refl
  where
    go : (above : Bool) → ltb ceiling goal ≡ above → (more : Bool) → needs_more goal load n values most ≡ more
        → cond above true (cond more true (is_short goal load n values)) ≡ true → min (least_loaded n load values l) ceiling < goal
    go true above more _ out = omega (arith, ltb-true ceiling goal above)
    go false above true more out = omega (arith, needs_more-below-goal goal load n values l most greatest more)
    go false above false more out = omega (arith, is_short-below-goal goal load n values l few small out)
