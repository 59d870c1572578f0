-- What holds of each entry of a list, as a test and as a type. Assumes nothing.
use mathlib.Core.Path.{◌≡◌, refl, sym, subst}
use mathlib.Core.Bool.{Bool, true, and-eq-true_iff}
use mathlib.Core.Logic.{⊎_elim}
use mathlib.Core.List.Memᴰ.{cases_cons}
use mathlib.Core.List.Memᴰ.{not-nil}
use mathlib.Core.List.{List, [], ◌∷◌, ◌++◌, map, Memᴰ as Mem}
use Prim.Native.Nat.{ℕ, zero, suc}
use lib.ListN.{length, take, replicate}
use Rattle.lists.specs.Lists.{all}

pub all_append : {A : Type 0} (p : A → Bool) (xs ys : List A) → all p xs ≡ true → all p ys ≡ true → all p (xs ++ ys) ≡ true
all_append p [] ys e f = f
all_append p (x ∷ xs) ys e f =
    let both = (and-eq-true_iff (p x) (all p xs)).0 e in
    rw (both.0, all_append p xs ys both.1 f)

pub all_weaker : {A : Type 0} (p q : A → Bool) → ((x : A) → p x ≡ true → q x ≡ true) → (xs : List A) → all p xs ≡ true → all q xs ≡ true
all_weaker p q weaker [] e = refl
all_weaker p q weaker (x ∷ xs) e =
    let both = (and-eq-true_iff (p x) (all p xs)).0 e in
    rw (weaker x both.0) (all_weaker p q weaker xs both.1)

-- each entry has the property P
abbrev pub Each : {A : Type 0} → (A → Type 0) → List A → Type 0
Each P [] = Unit {0}
Each P (x ∷ xs) = P x × Each P xs

module _ {A : Type 0} (P : A → Type 0) where
  pub each_append : (xs ys : List A) → Each P xs → Each P ys → Each P (xs ++ ys)
  each_append [] ys h l = l
  each_append (x ∷ xs) ys h l = (h.0, each_append xs ys h.1 l)

  pub each_take : (k : ℕ) (xs : List A) → Each P xs → Each P (take k xs)
  each_take zero xs h = tt
  each_take (suc k) [] h = tt
  each_take (suc k) (x ∷ xs) h = (h.0, each_take k xs h.1)

  pub each-replicate : (n : ℕ) (a : A) → P a → Each P (replicate n a)
  each-replicate zero a h = tt
  each-replicate (suc n) a h = (h, each-replicate n a h)

pub each_map : {A B : Type 0} (P : A → Type 0) (Q : B → Type 0) (f : A → B) → ((a : A) → P a → Q (f a)) → (xs : List A) → Each P xs → Each Q (map f xs)
each_map P Q f step [] h = tt
each_map P Q f step (x ∷ xs) h = (step x h.0, each_map P Q f step xs h.1)

-- each of the rows has so many places
abbrev pub AllOfLength : ℕ → List (List ℕ) → Type 0
AllOfLength n rows = Each (λ row. length row ≡ n) rows

-- what holds of each member holds of one
pub each-mem : {A : Type 0} (P : A → Type 0) (xs : List A) → Each P xs → {x : A} → Mem x xs → P x
each-mem P [] e m = absurd (not-nil m)
each-mem P (y ∷ ys) e {x} m = ⊎_elim (λ (same : x ≡ y). subst P (sym same) e.0) (λ later. each-mem P ys e.1 later) (cases_cons m)
