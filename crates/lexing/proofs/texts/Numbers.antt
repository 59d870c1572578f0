-- The tokens of numbers in decimal digits, behind a space or a bracket, and of parts one behind the other. Assumes nothing.
use mathlib.Core.Path.{◌≡◌, refl}
use mathlib.Core.List.Memᴰ.{head as here}
use mathlib.Core.List.Memᴰ.{tail as there}
use mathlib.Core.List.{List, [], ◌∷◌, map, flat_map, Memᴰ as Mem}
use mathlib.Core.Bool.{Bool, true, and-eq-true_iff}
use Prim.Native.Nat.{ℕ}
use native.Mathlib.Omega.{arith}
use lib.Dec.{leb}
use borrow.Author.Tests.{leb-true, ne_eqb}
use Rattle.lists.specs.Lists.{all}
use Rattle.text.specs.Decimal.{decimal, spaced_number, spaced_numbers}
use Rattle.text.proofs.Decimal.{decimal-first}
use Rattle.tokens.specs.Lines.{line_feed, space, semicolon}
use Rattle.tokens.specs.Tokens.{Token, opening, closing, is_bracket, is_word_byte}
use Rattle.lexing.specs.Numbers.{is_digit, all_digits}
use Rattle.tokens.proofs.texts.Parts.{Lexes, ◌then◌, nothing-lexed, spaced-word-lexed, bracket-word-lexed}
use Rattle.numerals.proofs.DecimalDigits.{decimal-all_digits}

-- digits are word bytes, and a number behind a space is a token
digit-is-word-byte : (b : ℕ) → is_digit b ≡ true → is_word_byte b ≡ true
digit-is-word-byte b e =
    let bounds = (and-eq-true_iff (leb 48 b) (leb b 57)).0 e in
    let low = leb-true 48 b bounds.0 in
    let high = leb-true b 57 bounds.1 in
    rw (ne_eqb b space (omega arith), ne_eqb b opening (omega arith), ne_eqb b closing (omega arith), ne_eqb b line_feed (omega arith), ne_eqb b semicolon (omega arith))

digits-are-word-bytes : (w : List ℕ) → all_digits w ≡ true → all is_word_byte w ≡ true
digits-are-word-bytes [] e = refl
digits-are-word-bytes (b ∷ bs) e =
    let both = (and-eq-true_iff (is_digit b) (all_digits bs)).0 e in
    rw (digit-is-word-byte b both.0) (digits-are-word-bytes bs both.1)

pub number-lexed : {begun : Bool} (n : ℕ) → Lexes begun (spaced_number n) (decimal n ∷ []) true
number-lexed n =
    let f = decimal-first n in
    rw f.is_decimal (spaced-word-lexed f.head f.more (digits-are-word-bytes (f.head ∷ f.more) (rw f.is_decimal at (decimal-all_digits n))))

pub numbers-lexed : (ns : List ℕ) → Lexes true (spaced_numbers ns) (map decimal ns) true
unfolding spaced_numbers
numbers-lexed [] = nothing-lexed
numbers-lexed (n ∷ ns) = number-lexed n then numbers-lexed ns

-- a number behind a bracket
pub bracket-number-lexed : {begun : Bool} (b n : ℕ) → is_bracket b ≡ true → Lexes begun (b ∷ decimal n) ((b ∷ []) ∷ decimal n ∷ []) true
bracket-number-lexed b n e =
    let f = decimal-first n in
    rw f.is_decimal (bracket-word-lexed b f.head f.more e (digits-are-word-bytes (f.head ∷ f.more) (rw f.is_decimal at (decimal-all_digits n))))

-- parts one behind the other, each of which ends as it began
module _ {A : Type 0} {begun : Bool} (text : A → List ℕ) (tokens_of : A → List Token) where
  pub parts-lexed : (ks : List A) → ((k : A) → Mem k ks → Lexes begun (text k) (tokens_of k) begun) → Lexes begun (flat_map text ks) (flat_map tokens_of ks) begun
  unfolding flat_map
  parts-lexed [] each = nothing-lexed
  parts-lexed (k ∷ ks) each = each k (here refl) then parts-lexed ks (λ j m. each j (there m))
