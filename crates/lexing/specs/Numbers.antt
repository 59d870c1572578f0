-- Numbers in decimal digits, as they are read from tokens (document 01, "The sheet"). Assumes nothing: these are definitions.
use Rattle.std.specs.Prelude.{ℕ, List, cond, eqb, Option, None, Some}
use Rattle.tokens.specs.Tokens.{Token}
pub use Rattle.numerals.specs.Numerals.{longest_number, is_digit, all_digits, no_leading_zero}
unfoldable pub use Rattle.numerals.specs.Numerals.{is_number, digits_after}
use Rattle.lexing.specs.Forms.{◌>>=◌, first, rest, follow}

-- a number in at most so many digits
unfoldable pub number : ℕ → List Token → Option (ℕ × List Token)
number most ts = cond (is_number most (first ts)) (Some (digits_after 0 (first ts), rest ts)) None

-- a form, and then a number
unfoldable pub number_after : List Token → ℕ → List Token → Option (ℕ × List Token)
number_after fs most ts = follow fs ts >>= number most

-- a form, and then just this number: the tokens after it
abbrev pub follow_number : List Token → ℕ → ℕ → List Token → Option (List Token)
follow_number fs most n ts₀ = do
  (k, ts₁) ← number_after fs most ts₀
  cond (eqb k n) (Some ts₁) None
