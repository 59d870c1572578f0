-- Laws of `greatest_of`: it is the least upper bound of the values at 1 .. n. Assumes nothing.
use mathlib.Core.Path.{◌≡◌, refl, sym, ap₂, ◌∙◌}
use mathlib.Core.Bool.{Bool, true, false, true≢false}
use mathlib.Core.Logic.{⊎_elim}
use Prim.Native.Nat.{ℕ, zero, suc, ◌+◌, ◌≤◌, max}
use native.Mathlib.Nat.{eq-or-lt_of_le}
use native.Mathlib.Numerals.{add-one}
use native.Mathlib.Omega.{arith}
use lib.Dec.{leb}
use borrow.Author.Tests.{le-leb, lt-leb, leb-true}
use Rattle.lists.specs.Lists.{range, all}
use Rattle.lists.specs.Sums.{greatest_of}
use Rattle.lists.proofs.Cases.{lt-or-ge}
use Rattle.lists.proofs.ranges.Ranges.{in-range, range-bounds}
use Rattle.lists.proofs.members.Counting.{mem-all, all-mem}

pub le-greatest_of : (w : ℕ → ℕ) (n c : ℕ) → 1 ≤ c → c ≤ n → w c ≤ greatest_of w n
le-greatest_of w zero c lo hi = absurd (omega arith)
le-greatest_of w (suc n) c lo hi =
    ⊎_elim (λ e. rw e (omega arith)) (λ lt. omega (arith, le-greatest_of w n c lo (omega arith))) (eq-or-lt_of_le hi)

pub greatest_of-le : (w : ℕ → ℕ) (n x : ℕ) → ((c : ℕ) → 1 ≤ c → c ≤ n → w c ≤ x) → greatest_of w n ≤ x
greatest_of-le w zero x high = omega arith
greatest_of-le w (suc n) x high =
    omega (arith, high (suc n) (omega arith) (omega arith), greatest_of-le w n x (λ c lo hi. high c lo (omega arith)))

-- equal values have equal greatests
pub greatest_of-cong : (u w : ℕ → ℕ) (n : ℕ) → ((c : ℕ) → 1 ≤ c → c ≤ n → u c ≡ w c) → greatest_of u n ≡ greatest_of w n
greatest_of-cong u w zero same = refl
greatest_of-cong u w (suc n) same =
    ap₂ max (greatest_of-cong u w n (λ c lo hi. same c lo (omega arith))) (same (suc n) (omega arith) (omega arith))

-- one value more
pub greatest_of-next : (w : ℕ → ℕ) (n : ℕ) → greatest_of w (n + 1) ≡ max (greatest_of w n) (w (n + 1))
greatest_of-next w n = rw (add-one n)

-- the greatest is at most x where all values are, and only there
module _ (w : ℕ → ℕ) (n x : ℕ) where
  all-le : greatest_of w n ≤ x → all (λ c. leb (w c) x) (range 1 n) ≡ true
  all-le le = mem-all (λ c. leb (w c) x) (range 1 n) (λ c m. let b = range-bounds 1 n m in le-leb (w c) x (omega (arith, le-greatest_of w n c b.0 (omega arith))))

  pub leb-greatest_of : leb (greatest_of w n) x ≡ all (λ c. leb (w c) x) (range 1 n)
  leb-greatest_of = step (all (λ c. leb (w c) x) (range 1 n)) refl
    where
      step : (b : Bool) → all (λ c. leb (w c) x) (range 1 n) ≡ b → leb (greatest_of w n) x ≡ b
      step true e = le-leb _ _ (greatest_of-le w n x (λ c lo hi. leb-true _ _ (all-mem (λ c. leb (w c) x) e (in-range 1 n c lo (omega arith)))))
      step false e = ⊎_elim (λ lt. lt-leb _ _ lt) (λ le. absurd (true≢false (sym (all-le le) ∙ e))) (lt-or-ge x (greatest_of w n))
