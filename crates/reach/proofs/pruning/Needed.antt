-- When a branch of the walk may be left: no partition reaches a goal for which the bundles need more values than there are. Assumes nothing.
use mathlib.Core.Path.{◌≡◌, refl, sym, ◌∙◌}
use mathlib.Core.Bool.{true, true≢false}
use mathlib.Core.Logic.{⊎_elim}
use mathlib.Core.List.{List, [], ◌∷◌}
use Prim.Native.Nat.{ℕ, zero, suc, ◌+◌, ◌-◌, ◌*◌, ◌/◌, ◌%◌, ◌≤◌, ◌<◌, min}
use native.Mathlib.Nat.{div-lt_iff_lt-mul, add-mul, mul-le-mul_right}
use native.Mathlib.Omega.{arith}
use lib.ListN.{length}
use Rattle.std.proofs.lemmas.Grind.{div_ceil_times}
use borrow.Author.Tests.{le-ltb}
use Rattle.lists.specs.Sums.{sum_over}
use Rattle.lists.proofs.Cases.{lt-or-ge}
use Rattle.reach.specs.Loads.{least_loaded}
use Rattle.reach.specs.Pruning.{greatest_value, needed, needed_by, needs_more}
use Rattle.reach.proofs.pruning.Reached.{lacks-le-values}
use Rattle.reach.proofs.pruning.Greatest.{greatest_value-positive}

-- nothing is lacking
pub needed-none : (most lack : ℕ) → lack ≤ 0 → needed most lack ≡ 0
needed-none most zero none = refl
needed-none most (suc lack) none = absurd (omega arith)

-- a lack that is there
pub needed-some : (most lack : ℕ) → 1 ≤ lack → needed most lack ≡ (lack - 1) / most + 1
needed-some most zero some = absurd (omega arith)
needed-some most (suc lack) some = let less : suc lack - 1 ≡ lack = omega arith in rw less refl

module _ (most : ℕ) (some : 1 ≤ most) where
  -- values that cover the lack are no fewer than needed
  needed-le : (lack count : ℕ) → lack ≤ count * most → needed most lack ≤ count
  needed-le zero count le = omega arith
  needed-le (suc lack) count le = omega (arith, (div-lt_iff_lt-mul {k = most} {x = lack} {y = count} some).1 le)

  -- and as many as needed cover it
  le-needed : (lack : ℕ) → lack ≤ needed most lack * most
  le-needed zero = omega arith
  le-needed (suc lack) = (div-lt_iff_lt-mul {k = most} {x = lack} {y = lack / most + 1} some).0 (omega arith)

  needed-parts : (x y : ℕ) → needed most (x + y) ≤ needed most x + needed most y
  needed-parts x y = needed-le (x + y) (needed most x + needed most y) (omega (arith, add-mul (needed most x) (needed most y) most, le-needed x, le-needed y))

  needed-mono : (x y : ℕ) → x ≤ y → needed most x ≤ needed most y
  needed-mono x y le = needed-le x (needed most y) (omega (arith, le-needed y))

  -- how many are needed is a division rounded up
  pub needed-div_ceil : (lack : ℕ) → needed most lack ≡ lack / most + min 1 (lack % most)
  needed-div_ceil lack =
      let up = lack / most + min 1 (lack % most) in
      let bounds = div_ceil_times lack most some in
      ⊎_elim
      (λ (few : needed most lack < up).
      absurd (omega (arith, bounds.1, le-needed lack, add-mul (needed most lack) 1 most, mul-le-mul_right most few)))
      (λ enough. omega (arith, enough, needed-le lack up bounds.0))
      (lt-or-ge (needed most lack) up)

-- a value is one value
needed-values : (most : ℕ) (values : List ℕ) → greatest_value values ≤ most → sum_over (needed most) values ≤ length values
needed-values most [] le = omega arith
needed-values most (v ∷ values) le =
    omega (arith, needed-le most (omega (arith, greatest_value-positive values)) v 1 (omega arith), needed-values most values (omega arith))

module _ (goal : ℕ) (load : ℕ → ℕ) (n : ℕ) (values l : List ℕ) (most : ℕ) (greatest : greatest_value values ≤ most) where
  needed-le-length : goal ≤ least_loaded n load values l → needed_by goal load n most ≤ length values
  needed-le-length reached =
      let some : 1 ≤ most = omega (arith, greatest_value-positive values) in
      omega (
        arith,
        lacks-le-values (needed most) refl (needed-parts most some) (needed-mono most some) goal load n values l reached,
        needed-values most values greatest,
      )

  -- where the bundles need more values than there are, no partition of the values reaches the goal
  pub needs_more-below-goal : needs_more goal load n values most ≡ true → least_loaded n load values l < goal
  needs_more-below-goal more =
      ⊎_elim
      (λ lt. lt)
      (λ reached. absurd (true≢false (sym more ∙ le-ltb (length values) (needed_by goal load n most) (needed-le-length reached))))
      (lt-or-ge (least_loaded n load values l) goal)
