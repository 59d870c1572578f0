-- What an accepted answer says of the tests on its way: each of them was passed; and the laws of one answer after another. Assumes nothing.
use mathlib.Core.Path.{◌≡◌, refl}
use mathlib.Core.Bool.{Bool, true, false}
use Rattle.std.specs.Prelude.{Option, None, Some}
use Prim.Native.Nat.{ℕ}
use native.Mathlib.Omega.{arith}
use Rattle.sheet.specs.Answers.{Answer, refused, accepted, require, and_then, require_some}

module _ {B : Type 0} (b : B) where
  pub refused-not-accepted : (n : ℕ) → refused n ≡ accepted b → ⊥
  refused-not-accepted n e = let z : ◌≡◌ {A = ℕ} 0 1 = cc in absurd (omega arith)

  pub required : (n : ℕ) (test : Bool) (later : Answer B) → require n test later ≡ accepted b → (test ≡ true) × (later ≡ accepted b)
  required n true later e = (refl, e)
  required n false later e = absurd (refused-not-accepted n e)

  -- what was there, and that what follows from it is accepted
  pub required_some : {A : Type 0} (n : ℕ) (o : Option A) (next : A → Answer B) → require_some n o next ≡ accepted b
      → (a : A) × (o ≡ Some a) × (next a ≡ accepted b)
  required_some n None next e = absurd (refused-not-accepted n e)
  required_some n (Some a) next e = (a, refl, e)

-- nothing follows
pub and_then-accepted : {A : Type 0} (a : Answer A) → and_then a accepted ≡ a
and_then-accepted (refused number) = refl
and_then-accepted (accepted result) = refl

-- three answers, one after another
pub and_then-assoc : {A B C : Type 0} (a : Answer A) (next : A → Answer B) (last : B → Answer C)
    → and_then (and_then a next) last ≡ and_then a (λ x. and_then (next x) last)
and_then-assoc (refused number) next last = refl
and_then-assoc (accepted result) next last = refl
