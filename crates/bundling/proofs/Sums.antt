-- Sums over the bundles of a partition: what a bundle is worth, and what is handed out and left. Assumes nothing.
use mathlib.Core.Path.{◌≡◌, refl, sym, ap, ◌∙◌}
use mathlib.Core.Bool.{Bool, true, false, not, cond}
use mathlib.Core.List.{List, [], ◌∷◌, map}
use Prim.Native.Nat.{ℕ, ◌+◌}
use native.Mathlib.Nat.{zero-add}
use native.Mathlib.Omega.{arith}
use lib.Dec.{eqb}
use lib.ListN.{length}
use Rattle.lists.specs.Lists.{cons_if, elem, distinct}
use Rattle.lists.specs.Sums.{sum_over}
use Rattle.lists.proofs.sums.Totals.{sum_over-cons_if, sum_over-add, sum_over-cong}
use Rattle.lists.proofs.sums.Once.{sum_over-once}
use Rattle.maximin.specs.Share.{bundle_value}
use Rattle.bundling.specs.Bundles.{items_in, bundle}

-- the value of bundle c is the value of the items in it
pub bundle_value-items : (v : ℕ → ℕ) (c : ℕ) (items l : List ℕ) → bundle_value c (map v items) l ≡ sum_over v (bundle items l c)
bundle_value-items v c [] l = refl
bundle_value-items v c (k ∷ items) [] = refl
bundle_value-items v c (k ∷ items) (d ∷ l) =
    ap (λ s. cond (eqb c d) (v k) 0 + s) (bundle_value-items v c items l) ∙ sym (sum_over-cons_if v (eqb c d) k (bundle items l c))

-- the items of the bundles handed out and those of the others are all items
pub sum_over-handed : (w : ℕ → ℕ) (chosen items l : List ℕ) → distinct chosen ≡ true → length l ≡ length items
    → sum_over (λ c. sum_over w (bundle items l c)) chosen + sum_over w (items_in (λ c. not (elem c chosen)) items l) ≡ sum_over w items
sum_over-handed w chosen [] l once same = nothing chosen
  where
    nothing : (cs : List ℕ) → sum_over (λ c. 0) cs + 0 ≡ 0
    nothing [] = refl
    nothing (c ∷ cs) = omega (arith, nothing cs)
sum_over-handed w chosen (k ∷ items) [] once same = absurd (omega arith)
sum_over-handed w chosen (k ∷ items) (d ∷ l) once same =
    omega (
      arith,
      sum_over-cong (λ c. sum_over w (cons_if (eqb c d) k (bundle items l c))) (λ c. cond (eqb c d) (w k) 0 + sum_over w (bundle items l c)) chosen (λ c m. sum_over-cons_if w (eqb c d) k (bundle items l c)),
      sum_over-add (λ c. cond (eqb c d) (w k) 0) (λ c. sum_over w (bundle items l c)) chosen,
      sum_over-once (w k) d chosen once,
      sum_over-cons_if w (not (elem d chosen)) k (items_in (λ c. not (elem c chosen)) items l),
      handed-or-left (elem d chosen) (w k),
      sum_over-handed w chosen items l once (omega arith),
    )
  where
    handed-or-left : (b : Bool) (x : ℕ) → cond b x 0 + cond (not b) x 0 ≡ x
    handed-or-left true x = omega arith
    handed-or-left false x = zero-add x
