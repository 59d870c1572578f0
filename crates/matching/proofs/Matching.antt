-- Laws of the matching: it matches the agents wherever some choice of bundles does. Assumes nothing.
use mathlib.Core.Path.{◌≡◌, refl, ap, subst}
use mathlib.Core.Bool.{Bool, true, false≢true, and-eq-true_iff}
use mathlib.Core.List.{List, [], ◌∷◌, Memᴰ as Mem}
use Prim.Native.Nat.{ℕ, suc}
use lib.ListN.{length}
use Rattle.lists.specs.Dictionary.{lists_over}
use Rattle.lists.specs.Lists.{distinct}
use Rattle.lists.proofs.dictionary.First.{first_that-passes}
use Rattle.lists.proofs.dictionary.Listed.{in-lists_over, lists_over-in}
use Rattle.matching.specs.Matching.{suited, matches, Matched, matching}

module _ (suits : ℕ → ℕ → Bool) where
  pub suited-length : (agents chosen : List ℕ) → suited suits agents chosen ≡ true → length chosen ≡ length agents
  suited-length [] [] e = refl
  suited-length [] (bundle ∷ chosen) e = absurd (false≢true e)
  suited-length (agent ∷ agents) [] e = absurd (false≢true e)
  suited-length (agent ∷ agents) (bundle ∷ chosen) e =
      ap suc (suited-length agents chosen ((and-eq-true_iff (suits agent bundle) (suited suits agents chosen)).0 e).1)

  pub matching-matched : (agents bundles chosen : List ℕ) → Matched suits agents bundles chosen → Matched suits agents bundles (matching suits agents bundles)
  unfolding matching
  matching-matched agents bundles chosen s =
      let lists = lists_over bundles (length agents) in
      let listed = subst (λ k. Mem chosen (lists_over bundles k)) (suited-length agents chosen s.suits_each) (in-lists_over bundles chosen s.from_bundles) in
      let (m, passes) = first_that-passes (matches suits agents) lists listed (rw (s.suits_each, s.injective)) in
      let (each, once) = (and-eq-true_iff (suited suits agents (matching suits agents bundles)) (distinct (matching suits agents bundles))).0 passes in
      record { suits_each = each; injective = once; from_bundles = (lists_over-in bundles (length agents) m).0 }
