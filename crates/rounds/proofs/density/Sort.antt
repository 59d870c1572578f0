-- Ascending lists, and sorting by insertion. Assumes nothing.
use mathlib.Core.Path.{◌≡◌, refl, ◌∙◌, ap₂}
use mathlib.Core.Logic.{ite}
use mathlib.Core.List.{List, [], ◌∷◌}
use mathlib.Core.List.Permᴰ.{cons as perm-cons}
use mathlib.Core.List.Permᴰ.{nil as perm-nil}
use mathlib.Core.List.Permᴰ.{refl as perm-refl}
use mathlib.Core.List.Permᴰ.{swap as perm-swap}
use mathlib.Core.List.Permᴰ.{trans as perm-trans}
use mathlib.Core.List.{Permᴰ as Perm}
use Prim.Native.Nat.{ℕ, ◌+◌, ◌-◌, ◌≤◌, zero-le}
use native.Mathlib.Nat.{le_trans}
use native.Mathlib.Decide.{dec_le}
use native.Mathlib.Omega.{arith}
use Rattle.rounds.proofs.density.Deficit.{deficit}

-- each member is at least the one before it, and the first at least lo
pub data Ascending : ℕ → List ℕ → Type 0 where
  none : {lo : ℕ} → Ascending lo []
  next : {lo x : ℕ} {xs : List ℕ} → lo ≤ x → Ascending x xs → Ascending lo (x ∷ xs)

unfoldable pub insert : ℕ → List ℕ → List ℕ
insert x [] = x ∷ []
insert x (y ∷ ys) = ite (dec_le x y) (x ∷ y ∷ ys) (y ∷ insert x ys)

unfoldable pub sort : List ℕ → List ℕ
sort [] = []
sort (x ∷ xs) = insert x (sort xs)

pub perm-deficit : {xs ys : List ℕ} (b : ℕ) → Perm xs ys → deficit b xs ≡ deficit b ys
perm-deficit b perm-nil = refl
perm-deficit b (perm-cons e h) = ap₂ (λ x v. b - x + v) e (perm-deficit b h)
perm-deficit b (perm-swap e f) = omega arith
perm-deficit b (perm-trans h k) = perm-deficit b h ∙ perm-deficit b k

pub perm-insert : (x : ℕ) (ys : List ℕ) → Perm (insert x ys) (x ∷ ys)
unfolding insert
perm-insert x [] = perm-refl (x ∷ [])
perm-insert x (y ∷ ys) =
    elim (dec_le x y) as (λ d. Perm (ite d (x ∷ y ∷ ys) (y ∷ insert x ys)) (x ∷ y ∷ ys))
    [ yes h ↦ perm-refl (x ∷ y ∷ ys) | no h ↦ perm-trans (perm-cons refl (perm-insert x ys)) (perm-swap refl refl) ]

pub perm-sort : (xs : List ℕ) → Perm (sort xs) xs
unfolding sort
perm-sort [] = perm-nil
perm-sort (x ∷ xs) = perm-trans (perm-insert x (sort xs)) (perm-cons refl (perm-sort xs))

pub ascending-weaken : {lo lo' : ℕ} {xs : List ℕ} → lo ≤ lo' → Ascending lo' xs → Ascending lo xs
ascending-weaken h none = none
ascending-weaken h (next k r) = next (le_trans h k) r

pub insert-ascending : {lo : ℕ} (x : ℕ) {ys : List ℕ} → lo ≤ x → Ascending lo ys → Ascending lo (insert x ys)
unfolding insert
insert-ascending x h none = next h none
insert-ascending {lo} x h (next {x = y} {xs = ys} k r) =
    elim (dec_le x y) as (λ d. Ascending lo (ite d (x ∷ y ∷ ys) (y ∷ insert x ys)))
    [ yes le ↦ next h (next le r) | no gt ↦ next k (insert-ascending x (omega arith) r) ]

pub sort-ascending : (xs : List ℕ) → Ascending 0 (sort xs)
unfolding sort
sort-ascending [] = none
sort-ascending (x ∷ xs) = insert-ascending x zero-le (sort-ascending xs)
