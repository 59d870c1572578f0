-- Numbers in decimal digits, by their bytes (document 01, "The sheet"). Assumes nothing: these are definitions.
use Rattle.std.specs.Prelude.{ℕ, ◌+◌, ◌-◌, ◌*◌, List, [], ◌∷◌, Bool, not, cond, ◌&&◌, ◌||◌, length, get_or, leb, ltb, eqb, Option, None, Some}
use Rattle.lists.specs.Lists.{all}

-- the most digits that are read: a number of 19 digits is below 2 ^ 64
abbrev pub longest_number : ℕ
longest_number = 19

-- a byte from `0` to `9`
abbrev pub is_digit : ℕ → Bool
is_digit b = leb 48 b && leb b 57

abbrev pub all_digits : List ℕ → Bool
all_digits w = all is_digit w

-- "Numbers have no leading zero; zero is `0`"
abbrev pub no_leading_zero : List ℕ → Bool
no_leading_zero w = eqb (length w) 1 || not (eqb (get_or w 0 0) 48)

-- a number in one to `most` digits
unfoldable pub is_number : ℕ → List ℕ → Bool
is_number most w = ltb 0 (length w) && leb (length w) most && no_leading_zero w && all_digits w

-- the decimal number of n's digits and then the digits given: "Figures are in decimal"
unfoldable pub digits_after : ℕ → List ℕ → ℕ
digits_after n [] = n
digits_after n (b ∷ bs) = digits_after (n * 10 + (b - 48)) bs

-- the value of bytes that are a number in at most so many digits
abbrev pub numeral_value : ℕ → List ℕ → Option ℕ
numeral_value most w = cond (is_number most w) (Some (digits_after 0 w)) None
