-- The place that a reader of the code answers: the tokens that the definition leaves stand there. Assumes nothing.
use mathlib.Core.Path.{◌≡◌, refl, sym, ap, ◌∙◌}
use mathlib.Core.List.{List, IsSuffix}
use Rattle.std.specs.Prelude.{Option, None, Some}
use Rattle.std.specs.Bool.{then_some}
use mathlib.Core.Bool.{Bool, true, false, cond}
use Prim.Native.Nat.{ℕ}
use Rattle.tokens.specs.Tokens.{Token}
use Rattle.tokeniser.specs.Places.{tokens_at}
use Rattle.tokeniser.specs.Behind.{place_left}
use Rattle.tokeniser.specs.declared.Cursor.{Cursor}
use Rattle.tokeniser.proofs.Behind.{Reached, place-leaves, place_left-then}
use Rattle.lexing.specs.Forms.{follow}
use Rattle.lexing.specs.Numbers.{number, number_after, follow_number}
use Rattle.lexing.specs.Results.{place_after, found_from, number_from}
use Rattle.lexing.proofs.readers.Tested.{some-injective}
use Rattle.lexing.proofs.readers.Suffixes.{LeavesEnd, follow-leaves, number-leaves, number_after-leaves, follow_number-leaves}

-- what is read from a place on, a value of the tokens that are left, and the place where they are left
pub record ReadTo {A : Type 0} (s : List ℕ) (c : Cursor) (o : Option A) (value : List Token → A) (c' : Cursor) : Type 0 where
  pub read : o ≡ Some (value (tokens_at s c'))
  pub reached : Reached s c c'

pub read-to : {A : Type 0} {s : List ℕ} {c : Cursor} (value : List Token → A) {ts : List Token} {c' : Cursor} → IsSuffix ts (tokens_at s c)
    → c' ≡ place_left s c ts → ReadTo s c (Some (value ts)) value c'
read-to {s = s} value last e =
    let leaves = place-leaves last in
    record { read = ap (λ us. Some (value us)) (sym (ap (tokens_at s) e ∙ leaves.tokens_left)); reached = rw e leaves.reached }

module _ (s : List ℕ) (c : Cursor) where
  -- a reader misses, or it leaves the tokens at the place that it answers
  pub place-none : (o : Option (List Token)) → None ≡ place_after s c o → o ≡ None
  unfolding place_after
  place-none None told = refl
  place-none (Some ts) told = cc

  pub place-to : (o : Option (List Token)) {c' : Cursor} → LeavesEnd (λ us. us) (tokens_at s c) o → Some c' ≡ place_after s c o → ReadTo s c o (λ ts. ts) c'
  unfolding place_after
  place-to None last told = absurd (cc)
  place-to (Some ts) last told = read-to (λ us. us) last (cc)

  pub none-placed : {o : Option (List Token)} → o ≡ None → None ≡ place_after s c o
  unfolding place_after
  none-placed e = rw e

  -- the place where a test of what is left passes
  pub place-tested : (test : Bool) {c' : Cursor} (ts : List Token) → c' ≡ place_left s c ts → then_some test c' ≡ place_after s c (cond test (Some ts) None)
  unfolding place_after
  place-tested true ts e = ap Some e
  place-tested false ts e = refl

  -- likewise a reader of something, as it is kept
  module _ {A B : Type 0} (kept : A → B) where
    pub found-none : (o : Option (A × List Token)) → None ≡ found_from kept s c o → o ≡ None
    unfolding found_from
    found-none None told = refl
    found-none (Some r) told = cc

    pub none-found : {o : Option (A × List Token)} → o ≡ None → None ≡ found_from kept s c o
    unfolding found_from
    none-found e = rw e

    pub record Found (o : Option (A × List Token)) (b : B) (c' : Cursor) : Type 0 where
      pub value : A
      pub to : ReadTo s c o (λ ts. (value, ts)) c'
      pub is_kept : b ≡ kept value

    pub found-to : (o : Option (A × List Token)) {b : B} {c' : Cursor} → LeavesEnd (λ r. r.1) (tokens_at s c) o → Some (b, c') ≡ found_from kept s c o → Found o b c'
    unfolding found_from
    found-to None last told = absurd (cc)
    found-to (Some (a, ts)) {b = b} {c' = c'} last told =
        let same = some-injective (b, c') (kept a, place_left s c ts) told in
        record { value = a; to = read-to (λ us. (a, us)) last (ap (λ p. p.1) same); is_kept = ap (λ p. p.0) same }

  -- and a reader of a number
  pub number-to : (o : Option (ℕ × List Token)) {n : ℕ} {c' : Cursor} → LeavesEnd (λ r. r.1) (tokens_at s c) o → Some (n, c') ≡ number_from s c o
      → ReadTo s c o (λ ts. (n, ts)) c'
  number-to o last told = let f = found-to (λ n. n) o last told in rw f.is_kept f.to

-- what is read is the same from a place that was reached before
pub place-then : {s : List ℕ} {c c' : Cursor} (o : Option (List Token)) → Reached s c c' → LeavesEnd (λ us. us) (tokens_at s c') o → place_after s c' o ≡ place_after s c o
unfolding place_after
place-then None r last = refl
place-then (Some ts) r last = ap Some (place_left-then r last)

pub found-then : {A B : Type 0} (kept : A → B) {s : List ℕ} {c c' : Cursor} (o : Option (A × List Token)) → Reached s c c' → LeavesEnd (λ q. q.1) (tokens_at s c') o
    → found_from kept s c' o ≡ found_from kept s c o
unfolding found_from
found-then kept None r last = refl
found-then kept (Some (a, ts)) r last = ap (λ place. Some (kept a, place)) (place_left-then r last)

-- what each reader has read, where it has read something
module _ (s : List ℕ) (c : Cursor) where
  pub follow-read : (fs : List Token) {c' : Cursor} → Some c' ≡ place_after s c (follow fs (tokens_at s c)) → ReadTo s c (follow fs (tokens_at s c)) (λ ts. ts) c'
  follow-read fs told = place-to s c (follow fs (tokens_at s c)) (follow-leaves fs (tokens_at s c)) told

  pub follow_number-read : (fs : List Token) (most n : ℕ) {c' : Cursor} → Some c' ≡ place_after s c (follow_number fs most n (tokens_at s c))
      → ReadTo s c (follow_number fs most n (tokens_at s c)) (λ ts. ts) c'
  follow_number-read fs most n told = place-to s c (follow_number fs most n (tokens_at s c)) (follow_number-leaves fs most n (tokens_at s c)) told

  pub number-at-read : (most : ℕ) {n : ℕ} {c' : Cursor} → Some (n, c') ≡ number_from s c (number most (tokens_at s c)) → ReadTo s c (number most (tokens_at s c)) (λ ts. (n, ts)) c'
  number-at-read most told = number-to s c (number most (tokens_at s c)) (number-leaves most (tokens_at s c)) told

  pub number_after-read : (fs : List Token) (most : ℕ) {n : ℕ} {c' : Cursor} → Some (n, c') ≡ number_from s c (number_after fs most (tokens_at s c))
      → ReadTo s c (number_after fs most (tokens_at s c)) (λ ts. (n, ts)) c'
  number_after-read fs most told = number-to s c (number_after fs most (tokens_at s c)) (number_after-leaves fs most (tokens_at s c)) told
