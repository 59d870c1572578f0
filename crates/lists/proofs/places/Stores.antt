-- Values stored in places, one after the other or as many as there are places, and lists in places under a map. Assumes nothing.
use mathlib.Core.Path.{◌≡◌, refl, sym, ap₂, subst, ◌∙◌}
use mathlib.Core.Logic.{⊎_elim}
use mathlib.Core.List.{List, [], ◌∷◌, map, map-append, append-nil}
use Prim.Native.Nat.{ℕ, zero, suc, ◌+◌, ◌-◌, ◌≤◌, ◌<◌}
use native.Mathlib.Nat.{zero-add, eq-or-lt_of_le}
use native.Mathlib.Omega.{arith}
use lib.ListN.{length, get_or, drop_of_length-le, replicate, set as store, length-map}
use lib.Seq.{sets, sets-eq, get_or-set_same, get_or-set_other, set-get_or, set-set}
use Rattle.lists.specs.Lists.{padded}
use Rattle.lists.specs.Sums.{total}

module _ {A : Type 0} (P : ℕ → A → Type 0) (d : A) where
  -- what holds in each place before place i holds in each up to it, once it holds of what is stored there
  pub stored-each : (xs : List A) (i : ℕ) (v : A) → i < length xs → ((s : ℕ) → s < i → P s (get_or xs s d)) → P i v → (s : ℕ) → s < i + 1 → P s (get_or (store xs i v) s d)
  stored-each xs i v room each here s lt =
      ⊎_elim
      (λ (e : s ≡ i). rw e (subst (P i) (sym (get_or-set_same xs i v d room)) here))
      (λ (below : s < i). subst (P s) (sym (get_or-set_other xs i s v d (λ e. omega arith))) (each s below))
      (eq-or-lt_of_le (omega arith))

-- what stood in a place is stored there again
pub store-back : {A : Type 0} (xs : List A) (i : ℕ) (x d : A) → store (store xs i x) i (get_or xs i d) ≡ xs
store-back xs i x d = set-set xs i x (get_or xs i d) ∙ set-get_or xs i d

-- one number stored in the place of another
pub total-store : (f : ℕ → ℕ) (xs : List ℕ) (i x : ℕ) → i < length xs → total (map f (store xs i x)) + f (get_or xs i 0) ≡ total (map f xs) + f x
total-store f [] i x lt = absurd (omega arith)
total-store f (y ∷ xs) zero x lt = omega arith
total-store f (y ∷ xs) (suc i) x lt = omega (arith, total-store f xs i x (omega arith))

-- as many values as there are places
pub sets-all : {A : Type 0} (old vs : List A) → length vs ≡ length old → sets old 0 vs ≡ vs
sets-all old vs e =
    let all : 0 + length vs ≤ length old = omega arith in
    sets-eq vs old 0 all ∙ rw (zero-add, drop_of_length-le old {i = length vs} (omega arith)) (append-nil vs)

module _ {A B : Type 0} (f : A → B) where
  map-replicate : (n : ℕ) (a : A) → map f (replicate n a) ≡ replicate n (f a)
  map-replicate zero a = refl
  map-replicate (suc n) a = ap₂ ◌∷◌ refl (map-replicate n a)

  pub map-padded : (n : ℕ) (blank : A) (l : List A) → map f (padded n blank l) ≡ padded n (f blank) (map f l)
  map-padded n blank l = map-append f l (replicate (n - length l) blank) ∙ rw (map-replicate, length-map)
