-- A number at a place of a text, by what its token's bytes are. Assumes nothing.
use mathlib.Core.Path.{◌≡◌, refl}
use mathlib.Core.List.{List, [], ◌∷◌}
use Rattle.std.specs.Prelude.{Option, None, Some}
use Rattle.std.proofs.lemmas.Option.{none-some}
use mathlib.Core.Bool.{Bool, true, false, cond}
use Prim.Native.Nat.{ℕ}
use Rattle.numerals.specs.Numerals.{is_number, digits_after, numeral_value}
use Rattle.tokens.specs.Tokens.{Token, ended}
use Rattle.tokeniser.specs.Places.{tokens_at}
use Rattle.tokeniser.specs.NextToken.{bytes_of}
use Rattle.tokeniser.proofs.NextToken.{NextToken}
use Rattle.tokeniser.specs.declared.Cursor.{Cursor}
use Rattle.tokeniser.specs.declared.Token as token
use Rattle.lexing.specs.Numbers.{number}

module _ {s : List ℕ} {c : Cursor} {t : token.Token} (most : ℕ) (next : NextToken s c t) where
  -- what is read, by whether the token is a number
  abbrev read_if : Bool → Option (ℕ × List Token)
  read_if test = cond test (Some (digits_after 0 (bytes_of s t), tokens_at s t.next)) None

  number_at : number most (tokens_at s c) ≡ read_if (is_number most (bytes_of s t))
  unfolding number
  number_at = rw (next.is_first, next.then_rest)

  pub number-missed : None ≡ numeral_value most (bytes_of s t) → number most (tokens_at s c) ≡ None
  number-missed missed = rw number_at (go (is_number most (bytes_of s t)) missed)
    where
      go : (test : Bool) → None ≡ cond test (Some (digits_after 0 (bytes_of s t))) None → read_if test ≡ None
      go false e = refl
      go true e = cc

  pub number_read : (n : ℕ) → Some n ≡ numeral_value most (bytes_of s t) → number most (tokens_at s c) ≡ Some (n, tokens_at s t.next)
  number_read n read = rw number_at (go (is_number most (bytes_of s t)) read)
    where
      go : (test : Bool) → Some n ≡ cond test (Some (digits_after 0 (bytes_of s t))) None → read_if test ≡ Some (n, tokens_at s t.next)
      go false e = cc
      go true e = cc

-- where a number is read a token is left
pub number-left : (most : ℕ) (ts : List Token) {r : ℕ × List Token} → number most ts ≡ Some r → ended ts ≡ false
unfolding number is_number
number-left most [] {r} e = absurd (none-some r e)
number-left most (t ∷ ts) e = refl
