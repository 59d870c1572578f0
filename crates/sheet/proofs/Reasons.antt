-- Answers whose refusals are all reasons of the code: each is the answer of a result. Assumes nothing.
use mathlib.Core.Path.{◌≡◌, refl, ap}
use mathlib.Core.Bool.{Bool, true, false}
use Prim.Native.Nat.{ℕ}
use Rattle.std.specs.Prelude.{Result, Ok, Err}
use Rattle.sheet.specs.Answers.{Answer, refused, accepted, require, and_then, map_answer}
use Rattle.sheet.specs.Refusals.{number, answer_of}
use Rattle.sheet.specs.declared.refusal.Refusal.{Refusal}

-- each refusal has the number of a reason
pub record Reasoned {A : Type 0} (answer : Answer A) : Type 0 where
  pub reason : (n : ℕ) → answer ≡ refused n → (e : Refusal) × (number e ≡ n)

module _ {A : Type 0} where
  pub reasoned-accepted : (x : A) → Reasoned (accepted x)
  reasoned-accepted x = record { reason = λ n e. absurd (cc) }

  reasoned-refused : (e : Refusal) → Reasoned {A = A} (refused (number e))
  reasoned-refused e = record { reason = λ n is. let same : number e ≡ n = cc in (e, same) }

  pub reasoned-require : (e : Refusal) (test : Bool) (later : Answer A) → Reasoned later → Reasoned (require (number e) test later)
  reasoned-require e true later w = w
  reasoned-require e false later w = reasoned-refused e

module _ {A B : Type 0} where
  pub reasoned-and_then : (a : Answer A) (next : A → Answer B) → Reasoned a → ((x : A) → Reasoned (next x)) → Reasoned (and_then a next)
  reasoned-and_then (refused n) next w later = record { reason = λ k is. let same : n ≡ k = cc in w.reason k (ap refused same) }
  reasoned-and_then (accepted x) next w later = later x

  -- such an answer is that of a result of the code
  pub reasoned-result : (f : A → B) (a : Answer A) → Reasoned a → (r : Result B Refusal) × (answer_of r ≡ map_answer f a)
  reasoned-result f (refused n) w = let e = w.reason n refl in (Err e.0, ap refused e.1)
  reasoned-result f (accepted x) w = (Ok (f x), refl)
