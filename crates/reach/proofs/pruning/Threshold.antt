-- When a branch of the walk may be left: no partition reaches a goal of which, counted up to some threshold, the bundles lack more
-- than the values supply. Assumes nothing.
use mathlib.Core.Path.{◌≡◌, refl, sym, ap, ◌∙◌}
use mathlib.Core.Bool.{true, false, true≢false}
use mathlib.Core.Logic.{⊎_elim}
use mathlib.Core.List.{List, [], ◌∷◌}
use Prim.Native.Nat.{ℕ, ◌+◌, ◌-◌, ◌≤◌, ◌<◌, min}
use native.Mathlib.Omega.{arith}
use lib.ListN.{length, get_or, drop}
use lib.Seq.{take_all}
use borrow.Author.Tests.{le-ltb}
use Rattle.lists.specs.Lists.{range}
use Rattle.lists.specs.Sums.{total}
use Rattle.sheet.specs.Limits.{most_items, greatest_sum}
use Rattle.lists.proofs.Cases.{lt-or-ge}
use Rattle.lists.proofs.ranges.Ranges.{in-range}
use Rattle.lists.proofs.members.Counting.{mem-any, any_none}
use Rattle.lists.proofs.places.Passing.{drop-next}
use Rattle.lists.proofs.sums.Sums.{sum_of-zero}
use Rattle.reach.specs.Loads.{least_loaded}
use Rattle.reach.specs.Pruning.{supply, counted_supply, demand, is_short_at, is_short}
use Rattle.reach.proofs.pruning.Reached.{lacks-le-values}

-- values that sum to no more than the threshold count whole
pub supply-all : (most : ℕ) (values : List ℕ) → total values ≤ most → supply most values ≡ total values
supply-all most [] le = omega arith
supply-all most (v ∷ values) le = omega (arith, supply-all most values (omega arith))

-- a supply below the threshold is that of values that count whole
pub supply_below : (most : ℕ) (values : List ℕ) → supply most values < most → supply most values ≡ total values
supply_below most [] lt = omega arith
supply_below most (v ∷ values) lt = omega (arith, supply_below most values (omega arith))

-- a threshold above the sum of the values counts for as much as a greater one
supply-cut : (most bound : ℕ) (values : List ℕ) → total values ≤ bound → supply (min most bound) values ≡ supply most values
supply-cut most bound [] le = refl
supply-cut most bound (v ∷ values) le = omega (arith, supply-cut most bound values (omega arith))

-- values within the limits of a sheet supply what is counted
pub supply-counted : (most : ℕ) (values : List ℕ) → length values ≤ most_items → total values ≤ greatest_sum → counted_supply most values ≡ supply most values
supply-counted most values few small =
    ap (supply (min most (greatest_sum + 1))) (take_all most_items values few) ∙ supply-cut most (greatest_sum + 1) values (omega arith)

-- what the values from i on supply: value i, and the others
pub supply-drop : (most : ℕ) (values : List ℕ) (i : ℕ) → i < length values
    → supply most (drop i values) ≡ min (get_or values i 0) most + supply most (drop (i + 1) values)
supply-drop most values i inside = ap (supply most) (drop-next values i inside)

pub demand-zero : (goal : ℕ) (load : ℕ → ℕ) (n : ℕ) → demand goal load n 0 ≡ 0
demand-zero goal load n = sum_of-zero (λ c. min (goal - load c) 0) n (λ c. omega arith)

module _ (goal : ℕ) (load : ℕ → ℕ) (n : ℕ) where
  -- where a partition reaches the goal, the values supply what the bundles lack, at every threshold
  demand-le-supply : (most : ℕ) (values l : List ℕ) → goal ≤ least_loaded n load values l → demand goal load n most ≤ supply most values
  demand-le-supply most values l reached =
      lacks-le-values (λ v. min v most) (omega arith) (λ x y. omega arith) (λ x y le. omega arith) goal load n values l reached

  -- where the test fails at some threshold, no partition of the values reaches the goal
  pub is_short-below-goal : (values l : List ℕ) → length values ≤ most_items → total values ≤ greatest_sum → is_short goal load n values ≡ true → least_loaded n load values l < goal
  is_short-below-goal values l few small short =
      ⊎_elim
      (λ lt. lt)
      (λ reached. absurd (true≢false (sym short ∙ any_none (is_short_at goal load n values) (range 1 n) (λ c m. le-ltb (counted_supply (goal - load c) values) (demand goal load n (goal - load c)) (omega (arith, demand-le-supply (goal - load c) values l reached, supply-counted (goal - load c) values few small))))))
      (lt-or-ge (least_loaded n load values l) goal)

  module _ (values : List ℕ) where
    -- one bundle at which the test fails is enough
    pub is_short-at : (c : ℕ) → 1 ≤ c → c ≤ n → is_short_at goal load n values c ≡ true → is_short goal load n values ≡ true
    is_short-at c lo hi short = mem-any (is_short_at goal load n values) (in-range 1 n c lo (omega arith)) short

    -- the test passes at a bundle that lacks nothing
    pub is_short_at-reached : (c : ℕ) → goal ≤ load c → is_short_at goal load n values c ≡ false
    is_short_at-reached c reached = let none : goal - load c ≡ 0 = omega arith in rw none (le-ltb (counted_supply 0 values) (demand goal load n 0) (omega (arith, demand-zero goal load n)))
