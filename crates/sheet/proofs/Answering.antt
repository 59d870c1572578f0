-- What an answer that stands for a result of the code says of both. Assumes nothing.
use mathlib.Core.Path.{◌≡◌, refl, sym, ap, ◌∙◌}
use Prim.Native.Nat.{ℕ}
use Rattle.std.specs.Prelude.{[], ◌∷◌, get_or, Ok, Err}
use Rattle.sheet.specs.Answers.{Answer, refused, accepted, number_of, map_answer}
use Rattle.sheet.specs.Refusals.{number, answer_of}
use Rattle.sheet.specs.declared.refusal.Refusal.{Refusal}
use Rattle.sheet.specs.declared.refusal.Refusal.TheVariants as reason

module _ {A B : Type 0} (f : A → B) where
  -- the code refuses where the answer is that refusal
  pub refused-of_err : (a : Answer A) (e : Refusal) → answer_of (Err e) ≡ map_answer f a → a ≡ refused (number e)
  refused-of_err (refused n) e h = cc
  refused-of_err (accepted x) e h = absurd (cc)

  -- the code gives what is made of the result that is accepted
  pub accepted-of_ok : (a : Answer A) (b : B) → answer_of (Ok b) ≡ map_answer f a → (x : A) × (a ≡ accepted x) × (b ≡ f x)
  accepted-of_ok (refused n) b h = absurd (cc)
  accepted-of_ok (accepted x) b h = (x, refl, cc)

  -- what is made of a result changes no refusal's number
  pub number_of-map : (a : Answer A) → number_of (map_answer f a) ≡ number_of a
  number_of-map (refused n) = refl
  number_of-map (accepted x) = refl

-- the reason with this number
reason_of : ℕ → Refusal
reason_of n = get_or (
    reason.TextTooLong
    ∷ reason.TextTooLong
    ∷ reason.TextEmpty
    ∷ reason.HeadMalformed
    ∷ reason.AgentsOutside
    ∷ reason.ItemsOutside
    ∷ reason.YardLineMalformed
    ∷ reason.EndMalformed
    ∷ reason.MarkTooGreat
    ∷ reason.SharesNotCovered
    ∷ reason.BufferTooShort
    ∷ reason.DivisionMalformed
    ∷ reason.ItemNotOnce
    ∷ reason.StatementFalse
    ∷ reason.AllowanceTooSmall
    ∷ []) n reason.TextTooLong

reason_of-number : (r : Refusal) → reason_of (number r) ≡ r
unfolding reason_of
reason_of-number reason.TextTooLong = refl
reason_of-number reason.TextEmpty = refl
reason_of-number reason.HeadMalformed = refl
reason_of-number reason.AgentsOutside = refl
reason_of-number reason.ItemsOutside = refl
reason_of-number reason.YardLineMalformed = refl
reason_of-number reason.EndMalformed = refl
reason_of-number reason.MarkTooGreat = refl
reason_of-number reason.SharesNotCovered = refl
reason_of-number reason.BufferTooShort = refl
reason_of-number reason.DivisionMalformed = refl
reason_of-number reason.ItemNotOnce = refl
reason_of-number reason.StatementFalse = refl
reason_of-number reason.AllowanceTooSmall = refl

-- the number tells the reasons apart
pub number-injective : (a b : Refusal) → number a ≡ number b → a ≡ b
number-injective a b e = sym (reason_of-number a) ∙ ap reason_of e ∙ reason_of-number b
