-- A number after distinct numbers: it keeps them distinct where it is not among them, and not where it is. Assumes nothing.
use mathlib.Core.Path.{◌≡◌, refl, sym}
use mathlib.Core.Bool.{Bool, true, false, not, ◌||◌, and-eq-true_iff, and-false, or-true, true≢false}
use mathlib.Core.List.{List, [], ◌∷◌, ◌++◌}
use Prim.Native.Nat.{ℕ}
use lib.Dec.{eqb}
use borrow.Author.Tests.{not-true}
use Rattle.lists.specs.Lists.{elem, distinct}
use Rattle.lists.proofs.members.Counting.{any_append}
use Rattle.lists.proofs.members.Distinct.{eqb_comm}

or-false-both : (a b : Bool) → a || b ≡ false → (a ≡ false) × (b ≡ false)
or-false-both true b e = absurd (true≢false e)
or-false-both false b e = (refl, e)

-- a number more, which is not in the list
pub distinct_more : (xs : List ℕ) (x : ℕ) → distinct xs ≡ true → elem x xs ≡ false → distinct (xs ++ (x ∷ [])) ≡ true
distinct_more [] x d out = refl
distinct_more (y ∷ xs) x d out =
    let both = (and-eq-true_iff (not (elem y xs)) (distinct xs)).0 d in
    let other = or-false-both (eqb x y) (elem x xs) out in
    rw (any_append (eqb y) xs (x ∷ []), not-true (elem y xs) both.0, eqb_comm y x, other.0) (distinct_more xs x both.1 other.1)

-- a number that is in the list before it
pub distinct-twice : (xs : List ℕ) (x : ℕ) (l : List ℕ) → elem x xs ≡ true → distinct (xs ++ x ∷ l) ≡ false
distinct-twice [] x l again = absurd (true≢false (sym again))
distinct-twice (y ∷ xs) x l again = step (eqb x y) refl (distinct-twice xs x l)
  where
    step : (b : Bool) → eqb x y ≡ b → (elem x xs ≡ true → distinct (xs ++ x ∷ l) ≡ false) → distinct (y ∷ xs ++ x ∷ l) ≡ false
    step true e below = rw (any_append (eqb y) xs (x ∷ l), eqb_comm y x, e, or-true (elem y xs))
    step false e below = rw (below (rw e at again)) (and-false (not (elem y (xs ++ x ∷ l))))
