-- The greatest of the values from each place on. Assumes nothing.
use mathlib.Core.Path.{◌≡◌, ap, ◌∙◌}
use mathlib.Core.List.{List, [], ◌∷◌}
use Prim.Native.Nat.{ℕ, zero, suc, ◌+◌, ◌≤◌, ◌<◌}
use native.Mathlib.Nat.{add-zero}
use native.Mathlib.Omega.{arith}
use lib.ListN.{length, get_or, set}
use lib.Seq.{get_or-set_same, get_or-set_other}
use Rattle.reach.specs.Pruning.{greatest_value, GreatestFrom}

pub greatest_value-positive : (values : List ℕ) → 1 ≤ greatest_value values
greatest_value-positive [] = omega arith
greatest_value-positive (v ∷ values) = omega (arith, greatest_value-positive values)

module _ (at value : ℕ) (rest greatest : List ℕ) where
  -- one value before
  pub greatest_from-before : (most : ℕ) → at < length greatest → GreatestFrom (at + 1) rest greatest → most ≡ greatest_value (value ∷ rest) → GreatestFrom at (value ∷ rest) (set greatest at most)
  greatest_from-before most room from is zero inside = ap (λ k. get_or (set greatest at most) k 0) (add-zero at) ∙ get_or-set_same greatest at most 0 room ∙ is
  greatest_from-before most room from is (suc i) inside =
      let e : at + suc i ≡ at + 1 + i = omega arith in
      get_or-set_other greatest at (at + suc i) most 0 (λ same. omega arith) ∙ ap (λ k. get_or greatest k 0) e ∙ from i (omega arith)

  -- and with the first value gone
  pub greatest_from-next : GreatestFrom at (value ∷ rest) greatest → GreatestFrom (at + 1) rest greatest
  greatest_from-next from i inside = let e : at + 1 + i ≡ at + suc i = omega arith in ap (λ k. get_or greatest k 0) e ∙ from (suc i) (omega arith)
