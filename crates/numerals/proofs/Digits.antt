-- Digits one after another, and the bounds that they keep. Assumes nothing.
use mathlib.Core.Path.{◌≡◌, sym, ◌∙◌}
use mathlib.Core.List.{List, [], ◌∷◌}
use mathlib.Core.Bool.{true, false, ◌&&◌, and-eq-true_iff}
use Prim.Native.Nat.{ℕ, suc, ◌+◌, ◌-◌, ◌*◌, ◌^◌, ◌≤◌, ◌<◌}
use native.Mathlib.Nat.{add-zero, pow-suc, pow-le-pow_right}
use native.Mathlib.Numerals.{add-one}
use native.Mathlib.Omega.{arith}
use lib.ListN.{length, get_or, drop}
use lib.Seq.{drop-cons}
use lib.Dec.{leb, ltb, lit≤}
use borrow.Author.Tests.{leb-true, le-leb, lt-ltb}
use Rattle.numerals.specs.Numerals.{is_digit, all_digits, no_leading_zero, is_number, digits_after}

module _ (w : List ℕ) (i : ℕ) (h : i < length w) where
  all_digits-drop : all_digits (drop i w) ≡ is_digit (get_or w i 0) && all_digits (drop (i + 1) w)
  all_digits-drop = rw (drop-cons w i 0, add-one)

  pub digit-passed : all_digits w ≡ all_digits (drop i w) → is_digit (get_or w i 0) ≡ true → all_digits w ≡ all_digits (drop (i + 1) w)
  digit-passed e d = e ∙ all_digits-drop ∙ rw d

  pub no_digit : all_digits w ≡ all_digits (drop i w) → is_digit (get_or w i 0) ≡ false → false ≡ all_digits w
  no_digit e d = sym (e ∙ all_digits-drop ∙ rw d)

  pub digits_after-drop : (n : ℕ) → digits_after n (drop i w) ≡ digits_after (n * 10 + (get_or w i 0 - 48)) (drop (i + 1) w)
  unfolding digits_after
  digits_after-drop n = rw (drop-cons w i 0, add-one)

  -- the digit at a place of digits, and the digits after it
  pub digit_at : all_digits (drop i w) ≡ true → (48 ≤ get_or w i 0) × (get_or w i 0 ≤ 57) × (all_digits (drop (i + 1) w) ≡ true)
  digit_at d =
      let both = (and-eq-true_iff _ _).0 (sym all_digits-drop ∙ d) in
      let digit = (and-eq-true_iff _ _).0 both.0 in
      (leb-true _ _ digit.0, leb-true _ _ digit.1, both.1)

-- one more digit multiplies the bound by ten
pub below-ten-times : (n i b : ℕ) → n < 10 ^ i → b ≤ 57 → n * 10 + (b - 48) < 10 ^ (i + 1)
below-ten-times n i b h l = rw (add-one, pow-suc) (omega arith)

pub few-digits : (n i k : ℕ) → n < 10 ^ i → i ≤ k → n < 10 ^ k
few-digits n i k h l = let m : 10 ^ i ≤ 10 ^ k = pow-le-pow_right (lit≤ tt) l in omega arith

-- digits behind a number with at most i digits
digits_after-below : (n i : ℕ) (w : List ℕ) → n < 10 ^ i → all_digits w ≡ true → digits_after n w < 10 ^ (i + length w)
unfolding digits_after
digits_after-below n i [] h e = rw (add-zero i) h
digits_after-below n i (b ∷ bs) h e =
    let both = (and-eq-true_iff (is_digit b) (all_digits bs)).0 e in
    let digit = leb-true b 57 ((and-eq-true_iff (leb 48 b) (leb b 57)).0 both.0).1 in
    let places : i + 1 + length bs ≡ i + suc (length bs) = omega arith in
    rw (← places) (digits_after-below (n * 10 + (b - 48)) (i + 1) bs (below-ten-times n i b h digit) both.1)

pub nonempty : (w : List ℕ) → (length w ≡ 0 → ⊥) → ltb 0 (length w) ≡ true
nonempty w n = lt-ltb 0 (length w) (omega arith)

-- what makes bytes a number
pub number-parts : (most : ℕ) (w : List ℕ) → is_number most w ≡ true → (length w ≤ most) × (all_digits w ≡ true)
unfolding is_number
number-parts most w e =
    let some-digits = ltb 0 (length w) in
    let few = leb (length w) most in
    let digits = (and-eq-true_iff (some-digits && few && no_leading_zero w) (all_digits w)).0 e in
    let bounds = (and-eq-true_iff (some-digits && few) (no_leading_zero w)).0 digits.0 in
    (leb-true (length w) most ((and-eq-true_iff some-digits few).0 bounds.0).1, digits.1)

-- a number in at most so many digits is below that power of ten
pub is_number-below : (most : ℕ) (w : List ℕ) → is_number most w ≡ true → digits_after 0 w < 10 ^ most
is_number-below most w e =
    let parts = number-parts most w e in
    few-digits _ (0 + length w) most (digits_after-below 0 0 w (omega arith) parts.1) (omega (arith, parts.0))

-- a number in at most so many digits is one in at most more
pub is_number-wider : (most most' : ℕ) (w : List ℕ) → most ≤ most' → is_number most w ≡ true → is_number most' w ≡ true
unfolding is_number
is_number-wider most most' w more e =
    let few = (number-parts most w e).0 in
    rw (le-leb (length w) most' (omega arith)) (rw (le-leb (length w) most few) at e)
