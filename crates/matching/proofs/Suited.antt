-- Bundles chosen for agents one after the other: one more that suits, one that does not, and none. Assumes nothing.
use mathlib.Core.Path.{◌≡◌, refl, sym}
use mathlib.Core.Bool.{Bool, true, false, and-eq-true_iff, and-false, true≢false}
use mathlib.Core.List.{List, [], ◌∷◌, ◌++◌}
use Prim.Native.Nat.{ℕ, ◌<◌}
use native.Mathlib.Omega.{arith}
use lib.ListN.{length, get_or}
use Rattle.matching.specs.Matching.{suited}

module _ (suits : ℕ → ℕ → Bool) where
  -- one agent more, and a bundle that suits it
  pub suited-more : (agents chosen : List ℕ) (agent bundle : ℕ) → suited suits agents chosen ≡ true → suits agent bundle ≡ true
      → suited suits (agents ++ (agent ∷ [])) (chosen ++ (bundle ∷ [])) ≡ true
  suited-more [] [] agent bundle e good = rw good
  suited-more [] (c ∷ chosen) agent bundle e good = absurd (true≢false (sym e))
  suited-more (a ∷ agents) [] agent bundle e good = absurd (true≢false (sym e))
  suited-more (a ∷ agents) (c ∷ chosen) agent bundle e good =
      let both = (and-eq-true_iff (suits a c) (suited suits agents chosen)).0 e in
      rw both.0 (suited-more agents chosen agent bundle both.1 good)

  -- a bundle that does not suit the agent at its place
  pub suited-not : (agents chosen : List ℕ) (bundle : ℕ) (l : List ℕ) → suits (get_or agents (length chosen) 0) bundle ≡ false → suited suits agents (chosen ++ bundle ∷ l) ≡ false
  suited-not [] [] bundle l bad = refl
  suited-not [] (c ∷ chosen) bundle l bad = refl
  suited-not (a ∷ agents) [] bundle l bad = rw bad
  suited-not (a ∷ agents) (c ∷ chosen) bundle l bad = rw (suited-not agents chosen bundle l bad) (and-false (suits a c))

  -- no bundle for some agents
  pub suited-none : (agents : List ℕ) → 0 < length agents → suited suits agents [] ≡ false
  suited-none [] some = absurd (omega arith)
  suited-none (a ∷ agents) some = refl
