-- The numbers that a division states, as forms of tokens and numbers (document 01, "The printed division"). Assumes nothing: these are
-- definitions.
use Rattle.std.specs.Prelude.{ℕ, List, Option, Some}
use Rattle.sheet.specs.Limits.{count_digits, sum_digits}
use Rattle.tokens.specs.Tokens.{Token}
use Rattle.lexing.specs.Forms.{◌>>=◌, follow, form}
use Rattle.lexing.specs.Numbers.{number_after, follow_number}
use Rattle.sheet_lines.specs.SheetForms.{before_items, line_end}
use Rattle.division_numbers.specs.Forms.{before_counts, before_grade, before_worth, before_share, before_cut}

-- "a grade one" digit
abbrev pub grade_digits : ℕ
grade_digits = 1

-- "a worth or share has at most eleven digits": (worth 5) (share 5) (cut
unfoldable pub stated_amounts : List Token → Option (ℕ × ℕ × List Token)
stated_amounts ts₀ = do
  (worth, ts₁) ← number_after (form before_worth) sum_digits ts₀
  (share, ts₂) ← number_after (form before_share) sum_digits ts₁
  ts₃ ← follow (form before_cut) ts₂
  Some (worth, share, ts₃)

-- "The head repeats the counts and adds the grade": (division (yards 2) (pieces 3) (grade 3))
unfoldable pub division_head : ℕ → ℕ → List Token → Option (ℕ × List Token)
division_head agents items ts₀ = do
  ts₁ ← follow_number (form before_counts) count_digits agents ts₀
  ts₂ ← follow_number (form before_items) count_digits items ts₁
  (grade, ts₃) ← number_after (form before_grade) grade_digits ts₂
  ts₄ ← follow (form line_end) ts₃
  Some (grade, ts₄)
