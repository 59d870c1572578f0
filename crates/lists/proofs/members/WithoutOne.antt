-- A list without one member, and the members that a sub-list leaves out. Assumes nothing.
use mathlib.Core.Path.{◌≡◌, refl, sym, ap}
use mathlib.Core.Logic.{⊎_elim}
use mathlib.Core.List.Memᴰ.{cases_cons}
use mathlib.Core.List.Memᴰ.{head as here}
use mathlib.Core.List.Memᴰ.{not-nil}
use mathlib.Core.List.Memᴰ.{tail as there}
use mathlib.Core.List.{List, [], ◌∷◌, ◌++◌, Memᴰ as Mem}
use mathlib.Core.List.Sublistᴰ
use mathlib.Core.List.Sublistᴰ.{refl as sublist-refl}
use mathlib.Core.List.{Sublistᴰ as Sublist}
use Prim.Native.Nat.{ℕ, ◌+◌}
use native.Mathlib.Omega.{arith}
use Rattle.lists.specs.Sums.{sum_over}

-- where a member stands in a list
pub record At (member : ℕ) (ys : List ℕ) : Type 0 where
  pub front : List ℕ
  pub back : List ℕ
  pub parts : ys ≡ front ++ member ∷ back

pub mem-at : {k : ℕ} (ys : List ℕ) → Mem k ys → At k ys
mem-at [] m = absurd (not-nil m)
mem-at {k} (y ∷ ys) m =
    ⊎_elim
    (λ e. record { front = []; back = ys; parts = ap (λ x. x ∷ ys) (sym e) })
    (λ t. let a = mem-at ys t in record { front = y ∷ a.front; back = a.back; parts = ap (λ l. y ∷ l) a.parts })
    (cases_cons m)

pub without-sublist : (front : List ℕ) (k : ℕ) (back : List ℕ) → Sublist (front ++ back) (front ++ k ∷ back)
without-sublist [] k back = Sublist.cons (sublist-refl back)
without-sublist (x ∷ front) k back = Sublist.cons-cons refl (without-sublist front k back)

-- a member is a sub-list by itself
pub mem-sublist : {k : ℕ} (ys : List ℕ) → Mem k ys → Sublist (k ∷ []) ys
mem-sublist [] m = absurd (not-nil m)
mem-sublist (y ∷ ys) m = ⊎_elim (λ e. Sublist.cons-cons e (Sublistᴰ.nil-sublist ys)) (λ t. Sublist.cons (mem-sublist ys t)) (cases_cons m)

-- a sub-list that lacks the member is one without it
pub sublist-without : {xs : List ℕ} (front : List ℕ) (k : ℕ) (back : List ℕ) → Sublist xs (front ++ k ∷ back) → (Mem k xs → ⊥) → Sublist xs (front ++ back)
sublist-without [] k back (Sublist.cons s) lacks = s
sublist-without [] k back (Sublist.cons-cons e s) lacks = absurd (lacks (here (sym e)))
sublist-without (x ∷ front) k back (Sublist.cons s) lacks = Sublist.cons (sublist-without front k back s lacks)
sublist-without (x ∷ front) k back (Sublist.cons-cons e s) lacks = Sublist.cons-cons e (sublist-without front k back s (λ m. lacks (there m)))

-- the members that a sub-list leaves out
pub record LeftOut (xs ys : List ℕ) : Type 0 where
  pub rest : List ℕ
  pub rest_sub : Sublist rest ys
  pub sums : (w : ℕ → ℕ) → sum_over w ys ≡ sum_over w xs + sum_over w rest

pub left_out : {xs ys : List ℕ} → Sublist xs ys → LeftOut xs ys
left_out Sublist.slnil = record { rest = []; rest_sub = Sublist.slnil; sums = λ w. refl }
left_out (Sublist.cons {a = a} s) =
    let r = left_out s in
    record { rest = a ∷ r.rest; rest_sub = Sublist.cons-cons refl r.rest_sub; sums = λ w. omega (arith, r.sums w) }
left_out (Sublist.cons-cons e s) =
    let r = left_out s in
    record { rest = r.rest; rest_sub = Sublist.cons r.rest_sub; sums = λ w. omega (arith, r.sums w, ap w e) }
