-- Readings one after another: the next one of a loop, and what is read by all of them. Assumes nothing.
use mathlib.Core.Path.{◌≡◌, refl, ap}
use mathlib.Core.List.{List, [], ◌∷◌}
use Rattle.std.specs.Prelude.{Option, None, Some}
use Prim.Native.Nat.{ℕ, zero, suc, ◌+◌, ◌-◌, ◌≤◌, ◌<◌}
use native.Mathlib.Omega.{arith}
use lib.ListN.{length}
use Rattle.lists.proofs.members.Each.{Each}
use Rattle.tokens.specs.Tokens.{Token}
use Rattle.lexing.specs.Forms.{◌>>=◌, in_turn}

-- what is read, if anything is, has the property P
abbrev pub Holds : {A : Type 0} → (A → Type 0) → Option A → Type 0
Holds P None = Unit {0}
Holds P (Some a) = P a

pub holds-both : {A : Type 0} (P Q : A → Type 0) (o : Option A) → Holds P o → Holds Q o → Holds (λ a. P a × Q a) o
holds-both P Q None h l = tt
holds-both P Q (Some a) h l = (h, l)

module _ {A B : Type 0} (Q : B → Type 0) where
  pub then-holds : (P : A → Type 0) (o : Option A) (f : A → Option B) → Holds P o → ((a : A) → P a → Holds Q (f a)) → Holds Q (o >>= f)
  then-holds P None f h k = tt
  then-holds P (Some a) f h k = k a h

  pub read-holds : (o : Option A) (f : A → Option B) → ((a : A) → Holds Q (f a)) → Holds Q (o >>= f)
  read-holds None f k = tt
  read-holds (Some a) f k = k a

module _ {A : Type 0} (reader : ℕ → List Token → Option (A × List Token)) where
  -- as many readings as are due, and each with the property that the reader gives
  pub in-turn-length : (turn n : ℕ) (ts : List Token) → Holds (λ r. length r.0 ≡ n) (in_turn reader turn n ts)
  unfolding in_turn
  in-turn-length turn zero ts = refl
  in-turn-length turn (suc n) ts =
      read-holds _ (reader turn ts) _ (λ one. then-holds _ _ (in_turn reader (turn + 1) n one.1) _ (in-turn-length (turn + 1) n one.1) (λ r e. ap suc e))

  pub in-turn-each : (P : A → Type 0) → ((turn : ℕ) (ts : List Token) → Holds (λ r. P r.0) (reader turn ts)) → (turn n : ℕ) (ts : List Token)
      → Holds (λ r. Each P r.0) (in_turn reader turn n ts)
  unfolding in_turn
  in-turn-each P one turn zero ts = tt
  in-turn-each P one turn (suc n) ts =
      then-holds _ (λ r. P r.0) (reader turn ts) _ (one turn ts)
      (λ r e. then-holds _ _ (in_turn reader (turn + 1) n r.1) _ (in-turn-each P one (turn + 1) n r.1) (λ q h. (e, h)))

  -- of n readings the one after k is missed, or it is read, or none is left
  module _ (turn k n : ℕ) (ts : List Token) where
    pub turn-missed : k < n → reader turn ts ≡ None → in_turn reader turn (n - k) ts ≡ None
    unfolding in_turn
    turn-missed h e =
        let one_less : n - k ≡ suc (n - (k + 1)) = omega arith in
        rw (one_less, e)

    pub turn-read : (a : A) (ts' : List Token) → k < n → reader turn ts ≡ Some (a, ts')
        → in_turn reader turn (n - k) ts ≡ (in_turn reader (turn + 1) (n - (k + 1)) ts' >>= (λ r. Some (a ∷ r.0, r.1)))
    unfolding in_turn
    turn-read a ts' h e =
        let one_less : n - k ≡ suc (n - (k + 1)) = omega arith in
        rw (one_less, e)

    pub turn-none-left : n ≤ k → in_turn reader turn (n - k) ts ≡ Some ([], ts)
    unfolding in_turn
    turn-none-left h =
        let none_left : n - k ≡ 0 = omega arith in
        rw none_left
