-- What readers read of tokens that are written: the tokens of a form, numbers in decimal digits, and entries one after another.
-- Assumes nothing.
use mathlib.Core.Path.{◌≡◌, refl}
use mathlib.Core.List.Memᴰ.{head as here}
use mathlib.Core.List.Memᴰ.{tail as there}
use mathlib.Core.List.{List, [], ◌∷◌, ◌++◌, map, flat_map, append_assoc, Memᴰ as Mem}
use Rattle.std.specs.Prelude.{Option, Some}
use Prim.Native.Nat.{ℕ, zero, suc, ◌^◌, ◌<◌}
use native.Mathlib.Numerals.{add-one}
use borrow.Author.Tests.{eq-eqb}
use Rattle.lists.specs.Lists.{range}
use Rattle.text.specs.Decimal.{decimal}
use Rattle.tokens.specs.Tokens.{Token}
use Rattle.lexing.specs.Forms.{follow, in_turn}
use Rattle.lexing.specs.Numbers.{number, number_after, follow_number}
use Rattle.lexing.proofs.readers.Same.{same_refl}
use Rattle.numerals.proofs.DecimalDigits.{decimal-value, decimal-is_number}

pub follow-append : (fs ts : List Token) → follow fs (fs ++ ts) ≡ Some ts
unfolding follow
follow-append [] ts = refl
follow-append (f ∷ fs) ts = rw (same_refl f) (follow-append fs ts)

-- a number in at most so many digits
module _ (most n : ℕ) (pos : 0 < most) (small : n < 10 ^ most) where
  pub number-decimal : (ts : List Token) → number most (decimal n ∷ ts) ≡ Some (n, ts)
  unfolding number
  number-decimal ts = rw (decimal-is_number most n pos small, decimal-value n)

  pub number_after-decimal : (fs ts : List Token) → number_after fs most (fs ++ decimal n ∷ ts) ≡ Some (n, ts)
  unfolding number_after
  number_after-decimal fs ts = rw (follow-append fs (decimal n ∷ ts)) (number-decimal ts)

  pub follow_number-decimal : (fs ts : List Token) → follow_number fs most n (fs ++ decimal n ∷ ts) ≡ Some ts
  follow_number-decimal fs ts = rw (number_after-decimal fs ts, eq-eqb n n refl)

-- n entries one after another, each of which is read
module _ {A : Type 0} (reader : ℕ → List Token → Option (A × List Token)) (entry : ℕ → A) (tokens_of : ℕ → List Token) where
  pub in_turn-range : (turn n : ℕ) (ts : List Token)
      → ((i : ℕ) → Mem i (range turn n) → (us : List Token) → reader i (tokens_of i ++ us) ≡ Some (entry i, us))
      → in_turn reader turn n (flat_map tokens_of (range turn n) ++ ts) ≡ Some (map entry (range turn n), ts)
  unfolding in_turn flat_map
  in_turn-range turn zero ts reads = refl
  in_turn-range turn (suc n) ts reads =
      rw (
        append_assoc (tokens_of turn) (flat_map tokens_of (range (suc turn) n)) ts,
        reads turn (here refl) (flat_map tokens_of (range (suc turn) n) ++ ts),
        add-one turn,
        in_turn-range (suc turn) n ts (λ i m. reads i (there m)),
      )
