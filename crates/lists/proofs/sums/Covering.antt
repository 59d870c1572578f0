-- Lists that together have each of 1 .. n: their members' values sum to no less than the values at 1 .. n. Assumes nothing.
use mathlib.Core.Path.{◌≡◌, refl, sym, ap, ◌∙◌}
use mathlib.Core.Bool.{Bool, true, false, ◌||◌, cond}
use mathlib.Core.Logic.{⊎_elim}
use mathlib.Core.List.{List, [], ◌∷◌, map, map-append}
use Prim.Native.Nat.{ℕ, zero, suc, ◌+◌, ◌≤◌}
use native.Mathlib.Numerals.{add-one}
use native.Mathlib.Omega.{arith}
use lib.Dec.{eqb}
use borrow.Author.Tests.{ne_eqb}
use Rattle.lists.specs.Lists.{range, any, elem}
use Rattle.lists.specs.Sums.{total, sum_of, sum_over}
use Rattle.lists.proofs.Cases.{eq-or-ne}
use Rattle.lists.proofs.ranges.Ranges.{range-append}
use Rattle.lists.proofs.sums.Sums.{total-snoc, sum_of-zero, sum_of-add, sum_of-mono, sum_of-once}

either-le : (p q : Bool) (x : ℕ) → cond (p || q) x 0 ≤ cond p x 0 + cond q x 0
either-le true q x = omega arith
either-le false q x = omega arith

module _ (w : ℕ → ℕ) where
  sum_over-range : (n : ℕ) → sum_over w (range 1 n) ≡ sum_of w n
  sum_over-range zero = refl
  sum_over-range (suc n) =
      let next : 1 + n ≡ suc n = omega arith in
      ap (λ k. sum_over w (range 1 k)) (sym (add-one n))
      ∙ ap (sum_over w) (range-append 1 n 1)
      ∙ ap total (map-append w (range 1 n) (range (1 + n) 1))
      ∙ total-snoc (map w (range 1 n)) (w (1 + n))
      ∙ omega (arith, sum_over-range n, ap w next)

  module _ (n : ℕ) where
    -- the values of the numbers that pass one of several tests, by a bound for each test
    sum_of-any : {A : Type 0} (f : A → ℕ → Bool) (most : A → ℕ) → ((x : A) → sum_of (λ k. cond (f x k) (w k) 0) n ≤ most x) → (xs : List A)
        → sum_of (λ k. cond (any (λ x. f x k) xs) (w k) 0) n ≤ total (map most xs)
    sum_of-any f most each [] = omega (arith, sum_of-zero (λ _. 0) n (λ _. refl))
    sum_of-any f most each (x ∷ xs) = omega (
      arith,
      sum_of-mono (λ k. cond (any (λ y. f y k) (x ∷ xs)) (w k) 0) (λ k. cond (f x k) (w k) 0 + cond (any (λ y. f y k) xs) (w k) 0) n
          (λ k lo hi. either-le (f x k) (any (λ y. f y k) xs) (w k)),
      sum_of-add (λ k. cond (f x k) (w k) 0) (λ k. cond (any (λ y. f y k) xs) (w k) 0) n,
      each x,
      sum_of-any f most each xs,
    )

    at_one : (x : ℕ) → sum_of (λ k. cond (eqb k x) (w k) 0) n ≤ w x
    at_one x = omega (arith, sum_of-once x (w x) n, sum_of-mono (λ k. cond (eqb k x) (w k) 0) (λ k. cond (eqb k x) (w x) 0) n (λ k lo hi. same k))
      where
        same : (k : ℕ) → cond (eqb k x) (w k) 0 ≤ cond (eqb k x) (w x) 0
        same k = ⊎_elim (λ e. rw e (omega arith)) (λ ne. rw (ne_eqb k x ne) (omega arith)) (eq-or-ne k x)

    -- where each of 1 .. n stands in one of the lists
    pub covering-le : (lists : List (List ℕ)) → ((k : ℕ) → 1 ≤ k → k ≤ n → any (elem k) lists ≡ true) → sum_over w (range 1 n) ≤ total (map (sum_over w) lists)
    covering-le lists stands = omega (
      arith,
      sum_over-range n,
      sum_of-mono w (λ k. cond (any (elem k) lists) (w k) 0) n (λ k lo hi. rw (stands k lo hi) (omega arith)),
      sum_of-any (λ l k. elem k l) (sum_over w) (sum_of-any (λ x k. eqb k x) w at_one) lists,
    )
