-- Forms: tokens that a text must have (document 01, "The sheet"). A reader takes tokens and answers what it read with the tokens after
-- it, or none. Assumes nothing: these are definitions.
use Rattle.std.specs.Prelude.{ℕ, zero, suc, ◌+◌, List, [], ◌∷◌, Bool, true, false, cond, ◌&&◌, eqb, Option, None, Some}
use Prim.Native.String.{String}
use Rattle.text.specs.Bytes.{bytes}
use Rattle.tokens.specs.Tokens.{Token, tokens}
pub use Rattle.tokens.specs.Tokens.{first, rest, ended}

-- one reader after another, none where one of them reads nothing; `do` is written with it
infixl 20 ◌>>=◌
abbrev pub ◌>>=◌ : {A B : Type 0} → Option A → (A → Option B) → Option B
None >>= f = None
Some a >>= f = f a

-- whether two tokens are the same
abbrev pub same : List ℕ → List ℕ → Bool
same [] [] = true
same [] (y ∷ ys) = false
same (x ∷ xs) [] = false
same (x ∷ xs) (y ∷ ys) = eqb x y && same xs ys

-- the tokens after those of a form, where they begin with these
unfoldable pub follow : List Token → List Token → Option (List Token)
follow [] ts = Some ts
follow (f ∷ fs) ts = cond (same f (first ts)) (follow fs (rest ts)) None

-- the tokens of a form, given as text
abbrev pub form : String → List Token
form text = tokens (bytes text)

-- n readings one after another, the first of them by the reader for the number `turn`, the next by that for `turn + 1`, ..
unfoldable pub in_turn : {A : Type 0} → (ℕ → List Token → Option (A × List Token)) → ℕ → ℕ → List Token → Option (List A × List Token)
in_turn reader turn zero ts = Some ([], ts)
in_turn reader turn (suc n) ts = do
  (one, ts₁) ← reader turn ts
  (others, ts₂) ← in_turn reader (turn + 1) n ts₁
  Some (one ∷ others, ts₂)
