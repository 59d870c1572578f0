-- Laws of the front of a list, its first n members. Assumes nothing.
use mathlib.Core.Path.{◌≡◌, refl, ap}
use mathlib.Core.Logic.{⊎_elim}
use mathlib.Core.List.{List, [], ◌∷◌, ◌++◌}
use mathlib.Core.List.Memᴰ.{cases_cons}
use mathlib.Core.List.Memᴰ.{head as here}
use mathlib.Core.List.Memᴰ.{not-nil}
use mathlib.Core.List.Memᴰ.{tail as there}
use mathlib.Core.List.{Memᴰ as Mem}
use Prim.Native.Nat.{ℕ, zero, suc, ◌-◌, ◌≤◌}
use native.Mathlib.Nat.{sub-zero, zero-sub, suc-sub-suc}
use native.Mathlib.Omega.{arith}
use lib.ListN.{length, take}
use lib.Seq.{take-nil}

module _ {A : Type 0} where
  pub take-append : (n : ℕ) (xs ys : List A) → take n (xs ++ ys) ≡ take n xs ++ take (n - length xs) ys
  take-append n [] ys = rw (take-nil {A = A} n, sub-zero n)
  take-append zero (x ∷ xs) ys = rw (zero-sub (length (x ∷ xs)))
  take-append (suc n) (x ∷ xs) ys = rw (suc-sub-suc n (length xs)) (ap (λ l. x ∷ l) (take-append n xs ys))

  pub take-mem : (n : ℕ) (xs : List A) {x : A} → Mem x (take n xs) → Mem x xs
  take-mem zero xs m = absurd (not-nil m)
  take-mem (suc n) [] m = absurd (not-nil m)
  take-mem (suc n) (y ∷ xs) m = ⊎_elim (λ e. here e) (λ r. there (take-mem n xs r)) (cases_cons m)

  -- the front of a list that has a member has one too
  pub take-inhabited : {x : A} (n : ℕ) (xs : List A) → 1 ≤ n → Mem x xs → (y : A) × Mem y (take n xs)
  take-inhabited zero xs some m = absurd (omega arith)
  take-inhabited (suc n) [] some m = absurd (not-nil m)
  take-inhabited (suc n) (y ∷ xs) some m = (y, here refl)
