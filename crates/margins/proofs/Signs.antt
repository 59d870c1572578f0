-- The sign of a margin, and its size: what makes 64 bits enough. Assumes nothing.
use mathlib.Core.Path.{◌≡◌, refl, sym}
use mathlib.Core.Bool.{Bool, true, false, cond}
use Prim.Native.Nat.{ℕ, zero, suc, ◌*◌, ◌-◌, ◌≤◌, ◌<◌, ◌^◌}
use native.Mathlib.Nat.{mul-le-mul}
use native.Mathlib.Omega.{arith}
use lib.Dec.{leb, ltb}
use lib.IntN.{pos, negsuc, ◌-ℤ◌}
use lib.Signed.{mag, non_neg}
use borrow.Author.Tests.{ltb-true, ltb-false, le-leb, lt-leb}
use Rattle.sheet.specs.Limits.{greatest_sum, greatest_term}
use Rattle.terms.specs.Allowed.{SmallTerms}
use Rattle.margins.specs.Margins.{margin, greatest_margin}
use Rattle.terms.specs.declared.Terms.{Terms}

-- a difference of numbers below H is below H without its sign
size-by : (a b H : ℕ) → a < H → b ≤ H → (less : Bool) → (less ≡ true → a < b) → mag (cond less (negsuc (b - suc a)) (pos (a - b))) < H
size-by a b H low high true lt = omega (arith, lt refl)
size-by a b H low high false lt = omega arith

pub difference-small : (a b H : ℕ) → a < H → b ≤ H → mag (pos a -ℤ pos b) < H
difference-small a zero H low high = omega arith
difference-small a (suc b) H low high = size-by a (suc b) H low high (ltb a (suc b)) (ltb-true a (suc b))

-- a difference is not negative exactly where the second number is at most the first
sign-by : (a b : ℕ) (less : Bool) → ltb a b ≡ less → non_neg (cond less (negsuc (b - suc a)) (pos (a - b))) ≡ leb b a
sign-by a b true e = sym (lt-leb b a (ltb-true a b e))
sign-by a b false e = sym (le-leb b a (ltb-false a b e))

non_neg-difference : (a b : ℕ) → non_neg (pos a -ℤ pos b) ≡ leb b a
non_neg-difference a zero = sym (le-leb zero a (omega arith))
non_neg-difference a (suc b) = sign-by a (suc b) (ltb a (suc b)) refl

-- a margin is not negative exactly where the bundle is worth the part of the share that is promised
pub non_neg-margin : (terms : Terms) (worth share : ℕ) → non_neg (margin terms worth share) ≡ leb (terms.top * share) (terms.bottom * worth)
unfolding margin
non_neg-margin terms worth share = non_neg-difference (terms.bottom * worth) (terms.top * share)

-- 63 bits beside the sign are enough for it
pub greatest_margin-small : greatest_margin < 2 ^ 63
greatest_margin-small = omega arith

-- a product of a number of the terms and an amount
pub product_small : (number amount : ℕ) → number ≤ greatest_term → amount ≤ greatest_sum → number * amount ≤ greatest_margin
product_small number amount small small-amount = mul-le-mul small small-amount

pub margin-small : (terms : Terms) (worth share : ℕ) → SmallTerms terms → worth ≤ greatest_sum → share ≤ greatest_sum → mag (margin terms worth share) < suc greatest_margin
unfolding margin
margin-small terms worth share small small-worth small-share =
    difference-small (terms.bottom * worth) (terms.top * share) (suc greatest_margin)
    (omega (arith, product_small terms.bottom worth small.small_bottom small-worth))
    (omega (arith, product_small terms.top share small.small_top small-share))
