-- A number in decimal digits and the value of digits that are read: each gives back the other. Assumes nothing.
use mathlib.Core.Path.{◌≡◌, refl, sym, ◌∙◌}
use mathlib.Core.List.{List, [], ◌∷◌, ◌++◌, append_assoc, append-nil}
use mathlib.Core.Bool.{true, ◌&&◌, and-eq-true_iff, false≢true, or-true}
use Prim.Native.Nat.{ℕ, zero, suc, ◌+◌, ◌-◌, ◌*◌, ◌^◌, ◌≤◌, ◌<◌}
use native.Mathlib.Nat.{zero-add}
use native.Mathlib.Omega.{arith}
use lib.ListN.{length}
use lib.Dec.{eqb, leb, ltb}
use borrow.Author.Tests.{ne_eqb, leb-true, le-leb, lt-ltb, not-true, eqb-false}
use Rattle.lists.proofs.members.Each.{all_append}
use Rattle.text.specs.Decimal.{digit, decimal}
use Rattle.text.proofs.Decimal.{decimal_digit, decimal-tens, by_digits, decimal-first, decimal-length}
use Rattle.numerals.specs.Numerals.{is_digit, all_digits, no_leading_zero, is_number, digits_after}

digits_after-append : (n : ℕ) (v w : List ℕ) → digits_after n (v ++ w) ≡ digits_after (digits_after n v) w
unfolding digits_after
digits_after-append n [] w = refl
digits_after-append n (b ∷ bs) w = digits_after-append (n * 10 + (b - 48)) bs w

-- the value of a number's digits is the number
pub decimal-value : (n : ℕ) → digits_after 0 (decimal n) ≡ n
unfolding digits_after
decimal-value = by_digits (λ n. digits_after 0 (decimal n) ≡ n) one more
  where
    one : (d : ℕ) → d < 10 → digits_after 0 (decimal d) ≡ d
    one d h = rw (decimal_digit d h) (omega arith)

    more : (n d : ℕ) → 0 < n → d < 10 → digits_after 0 (decimal n) ≡ n → digits_after 0 (decimal (n * 10 + d)) ≡ n * 10 + d
    more n d pos small e = rw (decimal-tens n d pos small, digits_after-append 0 (decimal n), e) (omega arith)

is_digit-digit : (d : ℕ) → d < 10 → is_digit (digit d) ≡ true
is_digit-digit d h = rw (le-leb 48 (digit d) (omega arith), le-leb (digit d) 57 (omega arith))

pub decimal-all_digits : (n : ℕ) → all_digits (decimal n) ≡ true
decimal-all_digits = by_digits (λ n. all_digits (decimal n) ≡ true) one more
  where
    one : (d : ℕ) → d < 10 → all_digits (decimal d) ≡ true
    one d h = rw (decimal_digit d h, is_digit-digit d h)

    more : (n d : ℕ) → 0 < n → d < 10 → all_digits (decimal n) ≡ true → all_digits (decimal (n * 10 + d)) ≡ true
    more n d pos small e = rw (decimal-tens n d pos small) (all_append is_digit (decimal n) (digit d ∷ []) e (rw (is_digit-digit d small)))

decimal-no_leading_zero : (n : ℕ) → no_leading_zero (decimal n) ≡ true
decimal-no_leading_zero zero = rw (decimal_digit 0 (omega arith))
decimal-no_leading_zero (suc n) =
    let f = decimal-first (suc n) in
    rw (f.is_decimal, ne_eqb f.head 48 (f.leading (omega arith)), or-true)

-- a number in decimal digits is a number of so many digits
pub decimal-is_number : (most n : ℕ) → 0 < most → n < 10 ^ most → is_number most (decimal n) ≡ true
unfolding is_number
decimal-is_number most n pos h =
    let f = decimal-first n in
    let some-digit : ltb 0 (length (decimal n)) ≡ true = rw f.is_decimal (lt-ltb 0 (suc (length f.more)) (omega arith)) in
    rw (some-digit, le-leb (length (decimal n)) most (decimal-length n most pos h), decimal-no_leading_zero n, decimal-all_digits n)

-- a digit's byte from its value
digit-of-byte : (b : ℕ) → is_digit b ≡ true → (48 ≤ b) × (b - 48 < 10) × (digit (b - 48) ≡ b)
digit-of-byte b e =
    let bounds = (and-eq-true_iff (leb 48 b) (leb b 57)).0 e in
    let low = leb-true 48 b bounds.0 in
    let high = leb-true b 57 bounds.1 in
    (low, omega arith, omega arith)

-- digits after those of a number above zero
decimal-digits_after : (n : ℕ) (w : List ℕ) → 0 < n → all_digits w ≡ true → decimal (digits_after n w) ≡ decimal n ++ w
unfolding digits_after
decimal-digits_after n [] pos e = sym (append-nil (decimal n))
decimal-digits_after n (b ∷ bs) pos e =
    let both = (and-eq-true_iff (is_digit b) (all_digits bs)).0 e in
    let d = digit-of-byte b both.0 in
    decimal-digits_after (n * 10 + (b - 48)) bs (omega arith) both.1
    ∙ rw (decimal-tens n (b - 48) pos d.1, d.2) (append_assoc (decimal n) (b ∷ []) bs)

-- digits without a leading zero are those of their value
decimal-of-digits : (b : ℕ) (bs : List ℕ) → no_leading_zero (b ∷ bs) ≡ true → all_digits (b ∷ bs) ≡ true → decimal (digits_after 0 (b ∷ bs)) ≡ b ∷ bs
unfolding digits_after
decimal-of-digits b [] l e =
    let d = digit-of-byte b ((and-eq-true_iff (is_digit b) true).0 e).0 in
    rw (zero-add (b - 48), decimal_digit (b - 48) d.1, d.2)
decimal-of-digits b (c ∷ cs) l e =
    let both = (and-eq-true_iff (is_digit b) (all_digits (c ∷ cs))).0 e in
    let d = digit-of-byte b both.0 in
    let leading = eqb-false b 48 (not-true (eqb b 48) (rw (ne_eqb (suc (suc (length cs))) 1 (omega arith)) at l)) in
    rw (zero-add (b - 48)) (decimal-digits_after (b - 48) (c ∷ cs) (omega arith) both.1 ∙ rw (decimal_digit (b - 48) d.1, d.2))

pub decimal-of-value : (most : ℕ) (w : List ℕ) → is_number most w ≡ true → decimal (digits_after 0 w) ≡ w
unfolding is_number
decimal-of-value most [] e = absurd (false≢true e)
decimal-of-value most (b ∷ bs) e =
    let few = ltb 0 (length (b ∷ bs)) && leb (length (b ∷ bs)) most in
    let digits = (and-eq-true_iff (few && no_leading_zero (b ∷ bs)) (all_digits (b ∷ bs))).0 e in
    decimal-of-digits b bs ((and-eq-true_iff few (no_leading_zero (b ∷ bs))).0 digits.0).1 digits.1
