-- What the values give where a partition of them reaches a goal, counted in a way in which a sum counts for no more than its parts do.
-- Assumes nothing.
use mathlib.Core.Path.{◌≡◌}
use mathlib.Core.List.{List}
use Prim.Native.Nat.{ℕ, ◌+◌, ◌-◌, ◌≤◌}
use native.Mathlib.Omega.{arith}
use Rattle.lists.specs.Sums.{sum_of, sum_over}
use Rattle.lists.proofs.sums.LeastOf.{least_of-le}
use Rattle.lists.proofs.sums.Sums.{sum_of-mono}
use Rattle.maximin.specs.Share.{bundle_value}
use Rattle.reach.specs.Loads.{least_loaded}
use Rattle.maximin.proofs.Partitions.{sum_of-bundle_value}

-- the lacks of the bundles count for no more than the values do
pub lacks-le-values : (f : ℕ → ℕ) → f 0 ≡ 0 → ((x y : ℕ) → f (x + y) ≤ f x + f y) → ((x y : ℕ) → x ≤ y → f x ≤ f y)
    → (goal : ℕ) (load : ℕ → ℕ) (n : ℕ) (values l : List ℕ) → goal ≤ least_loaded n load values l → sum_of (λ c. f (goal - load c)) n ≤ sum_over f values
lacks-le-values f none parts mono goal load n values l reached = omega (
  arith,
  sum_of-bundle_value f none parts n values l,
  sum_of-mono (λ c. f (goal - load c)) (λ c. f (bundle_value c values l)) n
      (λ c lo hi. mono (goal - load c) (bundle_value c values l) (omega (arith, least_of-le (λ d. load d + bundle_value d values l) n c lo hi))),
)
