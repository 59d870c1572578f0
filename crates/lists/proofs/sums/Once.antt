-- A sum over distinct numbers in which one number alone counts. Assumes nothing.
use mathlib.Core.Path.{◌≡◌, refl, sym, ap, ◌∙◌}
use mathlib.Core.Bool.{Bool, true, false, not, cond, ◌||◌, and-eq-true_iff}
use mathlib.Core.List.{List, [], ◌∷◌}
use Prim.Native.Nat.{ℕ, ◌+◌}
use native.Mathlib.Omega.{arith}
use lib.Dec.{eqb}
use borrow.Author.Tests.{eqb-true, not-true}
use Rattle.lists.specs.Lists.{elem, distinct}
use Rattle.lists.specs.Sums.{sum_over}
use Rattle.lists.proofs.members.Distinct.{eqb_comm}

pub sum_over-once : (x d : ℕ) (cs : List ℕ) → distinct cs ≡ true → sum_over (λ c. cond (eqb c d) x 0) cs ≡ cond (elem d cs) x 0
sum_over-once x d [] once = refl
sum_over-once x d (c ∷ cs) once = rw (eqb_comm d c) (step (eqb c d) refl (sum_over-once x d cs both.1))
  where
    both : (not (elem c cs) ≡ true) × (distinct cs ≡ true)
    both = (and-eq-true_iff (not (elem c cs)) (distinct cs)).0 once

    step : (b : Bool) → eqb c d ≡ b → sum_over (λ c. cond (eqb c d) x 0) cs ≡ cond (elem d cs) x 0
        → cond b x 0 + sum_over (λ c. cond (eqb c d) x 0) cs ≡ cond (b || elem d cs) x 0
    step true e below =
        let out : elem d cs ≡ false = sym (ap (λ y. elem y cs) (eqb-true c d e)) ∙ not-true (elem c cs) both.0 in
        omega (arith, below ∙ ap (λ b. cond b x 0) out)
    step false e below = omega arith
