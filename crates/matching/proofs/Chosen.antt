-- The bundles that a matching chooses, also where there is none: they are free, distinct, and at most one for each agent. Assumes nothing.
use mathlib.Core.Path.{◌≡◌, ap}
use mathlib.Core.Bool.{Bool, true, and-eq-true_iff}
use mathlib.Core.Logic.{◌⊎◌, ⊎_elim}
use mathlib.Core.List.Memᴰ.{not-nil}
use mathlib.Core.List.{List, [], Memᴰ as Mem}
use Prim.Native.Nat.{ℕ, ◌≤◌}
use native.Mathlib.Omega.{arith}
use lib.ListN.{length}
use Rattle.lists.specs.Lists.{distinct}
use Rattle.lists.specs.Dictionary.{lists_over}
use Rattle.lists.proofs.dictionary.First.{first_that-cases}
use Rattle.lists.proofs.dictionary.Listed.{lists_over-in}
use Rattle.matching.specs.Matching.{suited, matches, matching}

module _ (suits : ℕ → ℕ → Bool) (served free : List ℕ) where
  cases : (matching suits served free ≡ [])
      ⊎ (Mem (matching suits served free) (lists_over free (length served)) × (matches suits served (matching suits served free) ≡ true))
  unfolding matching
  cases = first_that-cases (matches suits served) (lists_over free (length served))

  pub chosen-distinct : distinct (matching suits served free) ≡ true
  chosen-distinct =
      ⊎_elim (λ none. ap distinct none) (λ found. ((and-eq-true_iff (suited suits served (matching suits served free)) (distinct (matching suits served free))).0 found.1).1) cases

  pub chosen-free : (bundle : ℕ) → Mem bundle (matching suits served free) → Mem bundle free
  chosen-free bundle =
      ⊎_elim (λ (none : matching suits served free ≡ []). rw none (λ m. absurd (not-nil m))) (λ found. (lists_over-in free (length served) found.0).0 bundle) cases

  pub chosen-few : length (matching suits served free) ≤ length served
  chosen-few = ⊎_elim (λ none. omega (arith, ap length none)) (λ found. omega (arith, (lists_over-in free (length served) found.0).1)) cases
