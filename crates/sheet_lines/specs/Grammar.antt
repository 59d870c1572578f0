-- The lines of a sheet as forms of tokens and numbers (document 01, "The sheet"). Assumes nothing: these are definitions.
use Rattle.std.specs.Prelude.{ℕ, List, Bool, true, cond, Option, None, Some}
use Rattle.sheet.specs.Limits.{count_digits}
use Rattle.tokens.specs.Tokens.{Token}
use Rattle.lexing.specs.Forms.{◌>>=◌, follow, form, in_turn}
use Rattle.lexing.specs.Numbers.{number, number_after, follow_number}
use Rattle.sheet_lines.specs.SheetForms.{before_agents, before_items, before_turn, before_marks, line_end, last_line}

-- "The first line gives the counts": (sheet (yards 2) (pieces 3))
unfoldable pub head : List Token → Option (ℕ × ℕ × List Token)
head ts₀ = do
  (agents, ts₁) ← number_after (form before_agents) count_digits ts₀
  (items, ts₂) ← number_after (form before_items) count_digits ts₁
  ts₃ ← follow (form line_end) ts₂
  Some (agents, items, ts₃)

-- "one mark for each piece", each in one to so many digits
abbrev pub marks : ℕ → ℕ → List Token → Option (List ℕ × List Token)
marks digits items ts = in_turn (λ piece. number digits) 1 items ts

-- the number of a yard line, in its turn: (yard 1 (marks
unfoldable pub yard_turn : ℕ → List Token → Option (List Token)
yard_turn turn ts₀ = do
  ts₁ ← follow_number (form before_turn) count_digits turn ts₀
  follow (form before_marks) ts₁

-- the line of one yard: (yard 1 (marks 5 3 4))
unfoldable pub yard_line : (digits items turn : ℕ) → List Token → Option (List ℕ × List Token)
yard_line digits items turn ts₀ = do
  ts₁ ← yard_turn turn ts₀
  (row, ts₂) ← marks digits items ts₁
  ts₃ ← follow (form line_end) ts₂
  Some (row, ts₃)

-- "Then comes one line a yard, from yard 1 upward"
abbrev pub yard_lines : (digits agents items : ℕ) → List Token → Option (List (List ℕ) × List Token)
yard_lines digits agents items ts = in_turn (yard_line digits items) 1 agents ts

-- what the lines between the first line and the line `(end)` carry
pub record Body : Type 0 where
  pub rows : List (List ℕ)

-- the lines between the first line and the line `(end)`
unfoldable pub body : (digits agents items : ℕ) → List Token → Option (Body × List Token)
body digits agents items ts₀ = do
  (rows, ts₁) ← yard_lines digits agents items ts₀
  Some (record { rows = rows }, ts₁)

-- what may stand behind the line `(end)` of a sheet that another text follows: anything
abbrev pub anything : List Token → Bool
anything ts = true

-- the line `(end)`, and behind it tokens that may stand there
unfoldable pub end_line : (List Token → Bool) → List Token → Option (List Token)
end_line may_follow ts₀ = do
  ts₁ ← follow (form last_line) ts₀
  cond (may_follow ts₁) (Some ts₁) None
