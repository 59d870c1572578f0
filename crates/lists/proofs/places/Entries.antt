-- A list by its places: each member stands at one, and what stands there makes the list. Assumes nothing.
use mathlib.Core.Path.{◌≡◌, sym, ◌∙◌}
use mathlib.Core.Logic.{⊎_elim}
use mathlib.Core.List.Memᴰ.{cases_cons}
use mathlib.Core.List.Memᴰ.{not-nil}
use mathlib.Core.List.{List, [], ◌∷◌, Memᴰ as Mem}
use Prim.Native.Nat.{ℕ, suc, ◌+◌, ◌≤◌, ◌<◌}
use native.Mathlib.Omega.{arith}
use lib.ListN.{length, get_or}
use lib.Seq.{ext_get_or}
use Rattle.lists.specs.Lists.{nth}
use Rattle.lists.proofs.places.Places.{nth-next}

-- a member of a list stands at a place of it
pub mem-place : {A : Type 0} (blank x : A) (xs : List A) → Mem x xs → (i : ℕ) × (i < length xs) × (get_or xs i blank ≡ x)
mem-place blank x [] m = absurd (not-nil m)
mem-place blank x (y ∷ ys) m =
    ⊎_elim
    (λ (e : x ≡ y). (0, omega arith, sym e))
    (λ later. let (i, lt, at) = mem-place blank x ys later in (suc i, omega arith, at))
    (cases_cons m)

-- lists of n entries that are the same at each place are the same
pub same-at-places : {A : Type 0} (blank : A) (n : ℕ) (xs ys : List A) → length xs ≡ n → length ys ≡ n
    → ((i : ℕ) → 1 ≤ i → i ≤ n → nth blank xs i ≡ nth blank ys i) → xs ≡ ys
same-at-places blank n xs ys each each' same =
    ext_get_or blank xs ys (each ∙ sym each')
    (λ i lt. sym (nth-next blank xs i) ∙ same (i + 1) (omega arith) (omega arith) ∙ nth-next blank ys i)
