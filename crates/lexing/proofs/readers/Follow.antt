-- Following a form's tokens, at places of the two texts. Assumes nothing.
use mathlib.Core.Path.{◌≡◌, refl, ap, ◌∙◌}
use mathlib.Core.List.{List, [], ◌∷◌}
use Rattle.std.specs.Prelude.{None, Some}
use mathlib.Core.Bool.{true, false, cond, true≢false, false≢true, and-eq-true_iff}
use Prim.Native.Nat.{ℕ}
use Rattle.lists.specs.Lists.{all}
use Rattle.tokens.specs.Tokens.{Token}
use Rattle.tokens.specs.Tokenised.{has_byte}
use Rattle.lexing.specs.Forms.{first, rest, ended, same, follow}
use Rattle.tokeniser.specs.Places.{tokens_at}
use Rattle.tokeniser.specs.NextToken.{bytes_of}
use Rattle.tokeniser.proofs.NextToken.{NextToken}
use Rattle.tokeniser.specs.declared.Cursor.{Cursor}
use Rattle.tokeniser.specs.declared.Token as token

-- the whole form is followed
pub follow-end : (fs ts : List Token) → ended fs ≡ true → follow fs ts ≡ Some ts
unfolding follow
follow-end [] ts e = refl
follow-end (f ∷ fs) ts e = absurd (false≢true e)

first_rest : (fs : List Token) → ended fs ≡ false → fs ≡ first fs ∷ rest fs
first_rest [] e = absurd (true≢false e)
first_rest (f ∷ fs) e = refl

-- tokens of which the first is the same as one that has a byte
same_left : (fs ts : List Token) → all has_byte fs ≡ true → ended fs ≡ false → same (first fs) (first ts) ≡ true → ended ts ≡ false
same_left [] ts bytes h e = absurd (true≢false h)
same_left ([] ∷ fs) ts bytes h e = absurd (false≢true bytes)
same_left ((b ∷ bs) ∷ fs) [] bytes h e = absurd (false≢true e)
same_left ((b ∷ bs) ∷ fs) (t ∷ ts) bytes h e = refl

rest-has-bytes : (fs : List Token) → all has_byte fs ≡ true → all has_byte (rest fs) ≡ true
rest-has-bytes [] bytes = refl
rest-has-bytes (f ∷ fs) bytes = ((and-eq-true_iff (has_byte f) (all has_byte fs)).0 bytes).1

-- one token of the form against one of the text
module _ {form s : List ℕ} {there here : Cursor} {f t : token.Token} (h : ended (tokens_at form there) ≡ false) (nf : NextToken form there f) (nt : NextToken s here t) where
  follow-next : follow (tokens_at form there) (tokens_at s here)
      ≡ cond (same (bytes_of form f) (bytes_of s t)) (follow (tokens_at form f.next) (tokens_at s t.next)) None
  unfolding follow
  follow-next =
      rw (nf.is_first, nt.is_first, nf.then_rest, nt.then_rest) (ap (λ fs. follow fs (tokens_at s here)) (first_rest (tokens_at form there) h))

  pub follow-missed : same (bytes_of form f) (bytes_of s t) ≡ false → follow (tokens_at form there) (tokens_at s here) ≡ None
  follow-missed e = follow-next ∙ rw e

  pub follow-passed : same (bytes_of form f) (bytes_of s t) ≡ true
      → follow (tokens_at form there) (tokens_at s here) ≡ follow (tokens_at form f.next) (tokens_at s t.next)
  follow-passed e = follow-next ∙ rw e

  -- then a token of the text is left
  pub follow-left : all has_byte (tokens_at form there) ≡ true → same (bytes_of form f) (bytes_of s t) ≡ true → ended (tokens_at s here) ≡ false
  follow-left bytes e = same_left (tokens_at form there) (tokens_at s here) bytes h (rw (nf.is_first, nt.is_first) at e)

  -- and the tokens of the form that are left have bytes
  pub left-have-bytes : all has_byte (tokens_at form there) ≡ true → all has_byte (tokens_at form f.next) ≡ true
  left-have-bytes bytes = rw nf.then_rest (rest-has-bytes (tokens_at form there) bytes)
