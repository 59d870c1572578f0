-- Numbers that an answer never refuses with, by the tests on its way. Assumes nothing.
use mathlib.Core.Path.{◌≡◌, ap}
use mathlib.Core.Bool.{Bool, true, false}
use Rattle.std.specs.Prelude.{Option, None, Some}
use Prim.Native.Nat.{ℕ}
use native.Mathlib.Omega.{arith}
use Rattle.sheet.specs.Answers.{Answer, refused, accepted, NeverRefused, require, and_then, require_some}

module _ {B : Type 0} (k : ℕ) where
  pub never-accepted : (b : B) → NeverRefused k (accepted b)
  never-accepted b = record { never = λ e. let z : ◌≡◌ {A = ℕ} 0 1 = cc in omega arith }

  never-refused : (n : ℕ) → (n ≡ k → ⊥) → NeverRefused {A = B} k (refused n)
  never-refused n other = record { never = λ e. let same : n ≡ k = cc in other same }

  pub never-require : (n : ℕ) (test : Bool) (later : Answer B) → (n ≡ k → ⊥) → NeverRefused k later → NeverRefused k (require n test later)
  never-require n true later other b = b
  never-require n false later other b = never-refused n other

  module _ {A : Type 0} where
    pub never-require_some : (n : ℕ) (o : Option A) (next : A → Answer B) → (n ≡ k → ⊥) → ((a : A) → NeverRefused k (next a)) → NeverRefused k (require_some n o next)
    never-require_some n None next other b = never-refused n other
    never-require_some n (Some a) next other b = b a

    pub never-and_then : (a : Answer A) (next : A → Answer B) → NeverRefused k a → ((x : A) → NeverRefused k (next x)) → NeverRefused k (and_then a next)
    never-and_then (refused n) next first b = never-refused n (λ same. first.never (ap refused same))
    never-and_then (accepted x) next first b = b x
