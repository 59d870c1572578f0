-- What a reader leaves is the end of the tokens that it was given. Assumes nothing.
use mathlib.Core.List.{List, [], ◌∷◌, IsSuffix, IsSuffix-trans as suffix_trans, suffix_refl, suffix-cons}
use Rattle.std.specs.Prelude.{Option, None, Some}
use mathlib.Core.Bool.{Bool, true, false, cond}
use Prim.Native.Nat.{ℕ, zero, suc, ◌+◌}
use lib.Dec.{eqb}
use Rattle.tokens.specs.Tokens.{Token}
use Rattle.lexing.specs.Forms.{◌>>=◌, first, rest, same, follow, in_turn}
use Rattle.lexing.specs.Numbers.{is_number, digits_after, number, number_after, follow_number}
use Rattle.lexing.proofs.readers.InTurn.{Holds}

-- what is left where something is read, the part `left` of it, is the end of these tokens
abbrev pub LeavesEnd : {A : Type 0} → (A → List Token) → List Token → Option A → Type 0
LeavesEnd left ts o = Holds (λ a. IsSuffix (left a) ts) o

-- the end of the end is the end of all
pub end-of-end : {B : Type 0} {ts us : List Token} (left : B → List Token) (o : Option B) → IsSuffix us ts → LeavesEnd left us o → LeavesEnd left ts o
end-of-end left None last later = tt
end-of-end left (Some b) last later = suffix_trans later last

-- one reader after another
pub then-leaves : {A B : Type 0} (ts : List Token) (o : Option A) (f : A → Option B) (left : A → List Token) (left' : B → List Token)
    → LeavesEnd left ts o → ((a : A) → LeavesEnd left' (left a) (f a)) → LeavesEnd left' ts (o >>= f)
then-leaves ts None f left left' last later = tt
then-leaves ts (Some a) f left left' last later = end-of-end left' (f a) last (later a)

rest-suffix : (ts : List Token) → IsSuffix (rest ts) ts
rest-suffix [] = suffix_refl []
rest-suffix (t ∷ ts) = suffix-cons t ts

pub follow-leaves : (fs ts : List Token) → LeavesEnd (λ us. us) ts (follow fs ts)
unfolding follow
follow-leaves [] ts = suffix_refl ts
follow-leaves (f ∷ fs) ts = go (same f (first ts)) (end-of-end (λ us. us) (follow fs (rest ts)) (rest-suffix ts) (follow-leaves fs (rest ts)))
  where
    go : (test : Bool) → LeavesEnd (λ us. us) ts (follow fs (rest ts)) → LeavesEnd (λ us. us) ts (cond test (follow fs (rest ts)) None)
    go true later = later
    go false later = tt

pub number-leaves : (most : ℕ) (ts : List Token) → LeavesEnd (λ r. r.1) ts (number most ts)
unfolding number
number-leaves most ts = go (is_number most (first ts))
  where
    go : (test : Bool) → LeavesEnd (λ (r : ℕ × List Token). r.1) ts (cond test (Some (digits_after 0 (first ts), rest ts)) None)
    go true = rest-suffix ts
    go false = tt

pub number_after-leaves : (fs : List Token) (most : ℕ) (ts : List Token) → LeavesEnd (λ r. r.1) ts (number_after fs most ts)
unfolding number_after
number_after-leaves fs most ts = then-leaves ts (follow fs ts) (number most) (λ us. us) (λ r. r.1) (follow-leaves fs ts) (number-leaves most)

-- what is left where a test holds
pub test-leaves : (test : Bool) (ts : List Token) → LeavesEnd (λ us. us) ts (cond test (Some ts) None)
test-leaves true ts = suffix_refl ts
test-leaves false ts = tt

pub follow_number-leaves : (fs : List Token) (most n : ℕ) (ts : List Token) → LeavesEnd (λ us. us) ts (follow_number fs most n ts)
follow_number-leaves fs most n ts =
    then-leaves ts (number_after fs most ts) _ (λ r. r.1) (λ us. us) (number_after-leaves fs most ts) (λ r. test-leaves (eqb r.0 n) r.1)

-- readings one after another, each of which leaves the end
module _ {A : Type 0} (reader : ℕ → List Token → Option (A × List Token)) (each : (turn : ℕ) (ts : List Token) → LeavesEnd (λ r. r.1) ts (reader turn ts)) where
  pub in_turn-leaves : (turn n : ℕ) (ts : List Token) → LeavesEnd (λ r. r.1) ts (in_turn reader turn n ts)
  unfolding in_turn
  in_turn-leaves turn zero ts = suffix_refl ts
  in_turn-leaves turn (suc n) ts =
      then-leaves ts (reader turn ts) _ (λ r. r.1) (λ r. r.1) (each turn ts)
      (λ one. then-leaves one.1 (in_turn reader (turn + 1) n one.1) _ (λ r. r.1) (λ r. r.1) (in_turn-leaves (turn + 1) n one.1) (λ others. suffix_refl others.1))
