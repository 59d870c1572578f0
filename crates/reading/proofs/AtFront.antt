-- A sheet alone and a sheet with another text behind it: where they are accepted, and that they are refused alike but for refusal 7.
-- Assumes nothing.
use mathlib.Core.Path.{◌≡◌, refl, ap}
use mathlib.Core.List.{List, [], ◌∷◌}
use Rattle.std.specs.Prelude.{Option, None, Some}
use mathlib.Core.Bool.{Bool, true, false, cond}
use mathlib.Core.Logic.{◌↔◌, ◌⊎◌, inl, inr, ⊎_elim}
use Prim.Native.Nat.{ℕ}
use lib.ListN.{length}
use lib.Dec.{leb, ltb}
use Rattle.sheet.specs.Limits.{MarkLimits, mark_limits, longest_text, agents_allowed, items_allowed}
use Rattle.sheet.specs.Answers.{Answer, refused, accepted, require, require_some}
use Rattle.sheet.specs.Contents.{Contents}
use Rattle.tokens.specs.Tokens.{Token, tokens}
use Rattle.lexing.specs.Forms.{◌>>=◌, ended, form, follow}
use Rattle.sheet_lines.specs.SheetForms.{last_line}
use Rattle.sheet_lines.specs.Grammar.{head, body, anything, end_line}
use Rattle.reading.specs.Reading.{sheet_at_front, sheet_alone, reading, reading_front}
use Rattle.reading.proofs.Accepted.{AcceptedText, accepted-passes, passes-accepted, accepted-text, passes-sheet}

-- a text with a sheet that is accepted and these tokens behind it is read so, and a text that is read so has them
module _ (text : List ℕ) (c : Contents) (behind : List Token) where
  pub passes-front : AcceptedText mark_limits text c behind → reading_front text ≡ accepted (c, behind)
  unfolding reading_front
  passes-front a = passes-accepted mark_limits anything text c behind a refl

  pub front-passes : reading_front text ≡ accepted (c, behind) → AcceptedText mark_limits text c behind
  unfolding reading_front
  front-passes e = (accepted-passes mark_limits anything text c behind e).0

-- a text is accepted as a sheet exactly where its sheet is accepted and nothing stands behind it
pub read-of-front : (text : List ℕ) (c : Contents) → (reading text ≡ accepted c) ↔ (reading_front text ≡ accepted (c, []))
unfolding reading
read-of-front text c = (λ e. passes-front text c [] (accepted-text text c e), λ e. passes-sheet mark_limits text c (front-passes text c [] e))

-- two answers of which the first is refusal 7, or which are the same
abbrev RefusedOrSame : Answer (Contents × List Token) → Answer (Contents × List Token) → Type 0
RefusedOrSame a b = (a ≡ refused 7) ⊎ (a ≡ b)

require-alike : (n : ℕ) (test : Bool) (a b : Answer (Contents × List Token)) → RefusedOrSame a b → RefusedOrSame (require n test a) (require n test b)
require-alike n true a b alike = alike
require-alike n false a b alike = inr refl

require_some-alike : {A : Type 0} (n : ℕ) (o : Option A) (f g : A → Answer (Contents × List Token)) → ((a : A) → RefusedOrSame (f a) (g a))
    → RefusedOrSame (require_some n o f) (require_some n o g)
require_some-alike n None f g alike = inr refl
require_some-alike n (Some a) f g alike = alike a

-- the line `(end)` at the end of the text, or before another text
end_line-alike : (ts : List Token) (f : List Token → Answer (Contents × List Token)) → RefusedOrSame (require_some 7 (end_line ended ts) f) (require_some 7 (end_line anything ts) f)
unfolding end_line
end_line-alike ts f = go (follow (form last_line) ts)
  where
    go : (o : Option (List Token))
        → RefusedOrSame (require_some 7 (o >>= (λ behind. cond (ended behind) (Some behind) None)) f) (require_some 7 (o >>= (λ behind. cond (anything behind) (Some behind) None)) f)
    go None = inr refl
    go (Some []) = inr refl
    go (Some (t ∷ behind)) = inl refl

-- a text is refused with 7 as a sheet, or its sheet is read alike whether or not another text may stand behind it
pub alone-or-alike : (limits : MarkLimits) (text : List ℕ) → RefusedOrSame (sheet_at_front limits ended text) (sheet_at_front limits anything text)
alone-or-alike limits text =
    require-alike 1 (leb (length text) longest_text) _ _
    (require-alike 2 (ltb 0 (length text)) _ _
    (require_some-alike 3 (head (tokens text)) _ _ (λ (agents, items, ts₁).
    require-alike 4 (agents_allowed agents) _ _
    (require-alike 5 (items_allowed items) _ _
    (require_some-alike 6 (body limits.digits agents items ts₁) _ _ (λ (lines, ts₂).
    end_line-alike ts₂ _))))))

pub refused-alike : (text : List ℕ) → (reading text ≡ refused 7) ⊎ (reading text ≡ sheet_alone (reading_front text))
unfolding reading reading_front
refused-alike text = ⊎_elim (λ e. inl (ap sheet_alone e)) (λ e. inr (ap sheet_alone e)) (alone-or-alike mark_limits text)
