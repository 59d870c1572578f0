-- What follows an answer of the code: where the code refuses, the refusal is the whole answer; where it gives a result, what follows from
-- that is. Assumes nothing.
use mathlib.Core.Path.{◌≡◌, ap}
use Rattle.std.specs.Prelude.{Ok, Err}
use Rattle.sheet.specs.Answers.{Answer, refused, map_answer, and_then}
use Rattle.sheet.specs.Refusals.{number, answer_of}
use Rattle.sheet.specs.declared.refusal.Refusal.{Refusal}
use Rattle.sheet.proofs.Answering.{refused-of_err, accepted-of_ok}

module _ {A B C : Type 0} (stored : A → B) (a : Answer A) (next : A → Answer C) where
  pub refusal-follows : (e : Refusal) → answer_of (Err e) ≡ map_answer stored a → and_then a next ≡ refused (number e)
  refusal-follows e told = ap (λ x. and_then x next) (refused-of_err stored a e told)

  pub result-follows : (b : B) → answer_of (Ok b) ≡ map_answer stored a → (x : A) × (and_then a next ≡ next x) × (b ≡ stored x)
  result-follows b told =
      let got = accepted-of_ok stored a b told in
      (got.0, ap (λ x. and_then x next) got.1, got.2)
