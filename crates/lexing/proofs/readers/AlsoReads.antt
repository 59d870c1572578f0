-- One reader also reads what another reads: readers one after another, readings in turn, and numbers in more digits. Assumes nothing.
use mathlib.Core.Path.{◌≡◌, refl}
use mathlib.Core.List.{List}
use Rattle.std.specs.Prelude.{Option, None, Some}
use mathlib.Core.Bool.{Bool, true, false, cond}
use Prim.Native.Nat.{ℕ, zero, suc, ◌+◌, ◌≤◌}
use Rattle.tokens.specs.Tokens.{Token}
use Rattle.lexing.specs.Forms.{◌>>=◌, first, rest, in_turn}
use Rattle.lexing.specs.Numbers.{is_number, digits_after, number}
use Rattle.lexing.proofs.readers.InTurn.{Holds}
use Rattle.numerals.proofs.Digits.{is_number-wider}

-- what o reads, if anything, is read by o' too
abbrev pub AlsoReads : {A : Type 0} → Option A → Option A → Type 0
AlsoReads o' o = Holds (λ a. o' ≡ Some a) o

pub also-itself : {A : Type 0} (o : Option A) → AlsoReads o o
also-itself None = tt
also-itself (Some a) = refl

pub then-also : {A B : Type 0} (o' o : Option A) (f' f : A → Option B) → AlsoReads o' o → ((a : A) → AlsoReads (f' a) (f a)) → AlsoReads (o' >>= f') (o >>= f)
then-also o' None f' f h k = tt
then-also o' (Some a) f' f h k = rw h (k a)

module _ {A : Type 0} (reader' reader : ℕ → List Token → Option (A × List Token)) (each : (turn : ℕ) (ts : List Token) → AlsoReads (reader' turn ts) (reader turn ts)) where
  pub in-turn-also : (turn n : ℕ) (ts : List Token) → AlsoReads (in_turn reader' turn n ts) (in_turn reader turn n ts)
  unfolding in_turn
  in-turn-also turn zero ts = refl
  in-turn-also turn (suc n) ts =
      then-also (reader' turn ts) (reader turn ts) _ _ (each turn ts)
      (λ one. then-also (in_turn reader' (turn + 1) n one.1) (in_turn reader (turn + 1) n one.1) _ _ (in-turn-also (turn + 1) n one.1) (λ r. refl))

-- a number in more digits
pub number-also : (most most' : ℕ) (ts : List Token) → most ≤ most' → AlsoReads (number most' ts) (number most ts)
unfolding number
number-also most most' ts more = go (is_number most (first ts)) refl
  where
    go : (test : Bool) → is_number most (first ts) ≡ test → AlsoReads (number most' ts) (cond test (Some (digits_after 0 (first ts), rest ts)) None)
    go false e = tt
    go true e = rw (is_number-wider most most' (first ts) more e)
