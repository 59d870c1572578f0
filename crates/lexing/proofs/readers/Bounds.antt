-- A number that is read in at most so many digits is below that power of ten. Assumes nothing.
use mathlib.Core.Path.{◌≡◌, refl}
use mathlib.Core.List.{List}
use Rattle.std.specs.Prelude.{None, Some}
use mathlib.Core.Bool.{Bool, true, false, cond}
use Prim.Native.Nat.{ℕ, ◌^◌, ◌<◌}
use Rattle.tokens.specs.Tokens.{Token}
use Rattle.lexing.specs.Forms.{first, rest, follow}
use Rattle.lexing.specs.Numbers.{is_number, digits_after, number, number_after}
use Rattle.lexing.proofs.readers.InTurn.{Holds, read-holds}
use Rattle.numerals.proofs.Digits.{is_number-below}

pub number-below : (most : ℕ) (ts : List Token) → Holds (λ r. r.0 < 10 ^ most) (number most ts)
unfolding number
number-below most ts = go (is_number most (first ts)) refl
  where
    go : (test : Bool) → is_number most (first ts) ≡ test → Holds (λ (r : ℕ × List Token). r.0 < 10 ^ most) (cond test (Some (digits_after 0 (first ts), rest ts)) None)
    go false e = tt
    go true e = is_number-below most (first ts) e

pub number_after-below : (fs : List Token) (most : ℕ) (ts : List Token) → Holds (λ r. r.0 < 10 ^ most) (number_after fs most ts)
unfolding number_after
number_after-below fs most ts = read-holds _ (follow fs ts) (number most) (λ ts₁. number-below most ts₁)
