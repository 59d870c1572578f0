-- Sets in blocks of twice `bit`: of the first half the bit is 0, of the second 1. Assumes nothing.
use mathlib.Core.Path.{◌≡◌, sym, ap, ◌∙◌}
use mathlib.Core.Logic.{⊎_elim}
use mathlib.Core.List.{List}
use Prim.Native.Nat.{ℕ, ◌+◌, ◌-◌, ◌*◌, ◌/◌, ◌%◌, ◌≤◌, ◌<◌}
use native.Mathlib.Nat.{mul_comm, mul_assoc, add-mul, one-mul, div-eq_of_lt-le, mul-le-mul_right}
use native.Mathlib.Omega.{arith}
use lib.ListN.{get_or}
use borrow.Author.Tests.{eq-eqb, ne_eqb}
use Rattle.lists.proofs.Cases.{lt-or-ge}
use Rattle.exact_levels.specs.internal.Keeping.{BlockKept, with_item}

module _ (block bit from : ℕ) (at : from ≡ block * (2 * bit)) where
  twice : 2 * block * bit ≡ from
  twice = ap (λ x. x * bit) (mul_comm 2 block) ∙ mul_assoc block 2 bit ∙ sym at

  -- the quotient of a set of the first half, and of the second
  first-half : (set : ℕ) → from ≤ set → set < from + bit → set / bit % 2 ≡ 0
  first-half set lo hi =
      let upper : (2 * block + 1) * bit ≡ from + bit = add-mul (2 * block) 1 bit ∙ omega (arith, twice, one-mul bit) in
      let quotient : set / bit ≡ 2 * block = div-eq_of_lt-le bit (omega (arith, twice)) (omega (arith, upper)) in
      omega (arith, quotient)

  second-half : (set : ℕ) → from + bit ≤ set → set < from + bit + bit → set / bit % 2 ≡ 1
  second-half set lo hi =
      let lower : (2 * block + 1) * bit ≡ from + bit = add-mul (2 * block) 1 bit ∙ omega (arith, twice, one-mul bit) in
      let upper : (2 * block + 1 + 1) * bit ≡ from + bit + bit = add-mul (2 * block + 1) 1 bit ∙ omega (arith, lower, one-mul bit) in
      let quotient : set / bit ≡ 2 * block + 1 = div-eq_of_lt-le bit (omega (arith, lower)) (omega (arith, upper)) in
      omega (arith, quotient)

  -- the next block
  pub next-block : from + 2 * bit ≡ (block + 1) * (2 * bit)
  next-block = sym (add-mul block 1 (2 * bit) ∙ omega (arith, at, one-mul (2 * bit)))

  -- a block that begins before the last ends no later than that
  pub block_within : (blocks sets : ℕ) → sets ≡ blocks * (2 * bit) → from < sets → from + bit + bit ≤ sets
  block_within blocks sets all lt =
      ⊎_elim
      (λ (below : block < blocks). let upto : block + 1 ≤ blocks = omega arith in omega (arith, next-block, mul-le-mul_right (2 * bit) upto))
      (λ (le : blocks ≤ block). absurd (omega (arith, at, all, mul-le-mul_right (2 * bit) le)))
      (lt-or-ge block blocks)

  -- what is kept of the sets of one block more
  module _ (old kept new : List ℕ) (mark : ℕ) (done : (s : ℕ) → s < from → get_or kept s 0 ≡ with_item old bit mark s) (same : (s : ℕ) → from ≤ s → get_or kept s 0 ≡ get_or old s 0)
      (b : BlockKept kept from bit mark new) where
    pub block-done : (s : ℕ) → s < from + 2 * bit → get_or new s 0 ≡ with_item old bit mark s
    block-done s lt = ⊎_elim earlier (λ (lo : from ≤ s). ⊎_elim (in-first lo) in-second (lt-or-ge s (from + bit))) (lt-or-ge s from)
      where
        earlier : s < from → get_or new s 0 ≡ with_item old bit mark s
        earlier below = b.before s (omega arith) ∙ done s below

        in-first : from ≤ s → s < from + bit → get_or new s 0 ≡ with_item old bit mark s
        in-first lo hi = rw (ne_eqb (s / bit % 2) 1 (λ e. omega (arith, first-half s lo hi))) (b.before s hi ∙ same s lo)

        in-second : from + bit ≤ s → get_or new s 0 ≡ with_item old bit mark s
        in-second lo =
            let i = s - (from + bit) in
            let here : from + bit + i ≡ s = omega arith in
            let less : from + i ≡ s - bit = omega arith in
            rw (eq-eqb (s / bit % 2) 1 (second-half s lo (omega arith)))
            (omega (
              arith,
              b.raised i (omega arith),
              ap (λ k. get_or new k 0) here,
              ap (λ k. get_or kept k 0) here,
              ap (λ k. get_or kept k 0) less,
              same s (omega arith),
              same (s - bit) (omega arith),
            ))

    pub block_same : (s : ℕ) → from + 2 * bit ≤ s → get_or new s 0 ≡ get_or old s 0
    block_same s le = b.behind s (omega arith) ∙ same s (omega arith)
