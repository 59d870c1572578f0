-- What chains of iterators ensure, in std's words, is the same in the words of specs/. Assumes nothing.
use mathlib.Core.Path.{◌≡◌, refl, ap, ap₂, ◌∙◌}
use mathlib.Core.Bool.{Bool, true, false, cond, ◌&&◌}
use mathlib.Core.List.{List, [], ◌∷◌}
use Prim.Native.Nat.{ℕ, zero, suc, ◌+◌, ◌<◌}
use native.Mathlib.Numerals.{add-one}
use native.Mathlib.Omega.{arith}
use Rattle.std.specs.Prelude.{count_by}
use Rattle.std.specs.List.{list_all, range_with_len}
use Rattle.std.proofs.lemmas.List.Sums.{sum_by-cons}
use Rattle.lists.specs.Lists.{range, bit, count, all}

module _ {A : Type 0} (p : A → Bool) where
  pub list_all-all : (xs : List A) → list_all p xs ≡ all p xs
  list_all-all [] = refl
  list_all-all (x ∷ xs) = ap (λ b. p x && b) (list_all-all xs)

  counted : (b : Bool) → cond b 1 0 ≡ bit b
  counted true = refl
  counted false = refl

  pub count_by-count : (xs : List A) → count_by p xs ≡ count p xs
  count_by-count [] = refl
  count_by-count (x ∷ xs) = sum_by-cons (λ y. cond (p y) 1 0) x xs ∙ ap₂ ◌+◌ (counted (p x)) (count_by-count xs)

-- a test of n numbers from i on, as one of the numbers that are one greater
pub list_all-range : (p q : ℕ → Bool) (i n : ℕ) → ((k : ℕ) → k < i + n → p k ≡ q (k + 1)) → list_all p (range_with_len i n) ≡ all q (range (i + 1) n)
list_all-range p q i zero same = refl
list_all-range p q i (suc n) same =
    ap₂ ◌&&◌ (same i (omega arith)) (list_all-range p q (i + 1) n (λ k lt. same k (omega arith)) ∙ ap (λ k. all q (range k n)) (add-one (i + 1)))
