-- The lines of a division as forms of tokens and numbers (document 01, "The printed division"), for so many agents (yards) and items
-- (pieces) of the sheet. Refusal 11 of document 02 is all that is not read: "a text off the layout (a pile's pieces rise, also in a cut; a
-- worth or share has at most eleven digits, a grade one), with other counts of yards, pieces or a cut's piles, or naming a piece not on the
-- sheet". Assumes nothing: these are definitions.
use Rattle.std.specs.Prelude.{ℕ, List, cond, ◌&&◌, leb, Option, None, Some}
use Rattle.sheet.specs.Limits.{most_agents, most_items, count_digits}
use Rattle.tokens.specs.Tokens.{Token}
use Rattle.lexing.specs.Forms.{◌>>=◌, ended, follow, form, in_turn}
use Rattle.lexing.specs.Numbers.{follow_number}
use Rattle.sheet_lines.specs.SheetForms.{before_turn, line_end}
use Rattle.sheet_lines.specs.Grammar.{end_line}
unfoldable pub use Rattle.bundle_reading.specs.Bundles.{rising_items, bundle_after}
pub use Rattle.division_numbers.specs.Numbers.{grade_digits}
unfoldable pub use Rattle.division_numbers.specs.Numbers.{stated_amounts, division_head}
use Rattle.division_reading.specs.DivisionForms.{before_pile, before_cut_pile}
use Rattle.division_reading.specs.Stated.{StatedLine, Stated}

-- the front of a yard line, in its turn: (yard 1 (pile 1)
unfoldable pub bundle_in_turn : ℕ → ℕ → List Token → Option (List ℕ × List Token)
bundle_in_turn items turn ts₀ = do
  ts₁ ← follow_number (form before_turn) count_digits turn ts₀
  bundle_after (form before_pile) items ts₁

-- "its cut of all pieces into N piles": (1) (2 3)
abbrev pub cut_bundles : ℕ → ℕ → List Token → Option (List (List ℕ) × List Token)
cut_bundles agents items ts = in_turn (λ number. bundle_after (form before_cut_pile) items) 1 agents ts

-- the line of one yard: (yard 1 (pile 1) (worth 5) (share 5) (cut (1) (2 3)))
unfoldable pub division_line : (agents items turn : ℕ) → List Token → Option (StatedLine × List Token)
division_line agents items turn ts₀ = do
  (bundle, ts₁) ← bundle_in_turn items turn ts₀
  (worth, share, ts₂) ← stated_amounts ts₁
  (cut, ts₃) ← cut_bundles agents items ts₂
  ts₄ ← follow (form line_end) ts₃
  Some (record { bundle = bundle; worth = worth; share = share; cut = cut }, ts₄)

-- one line a yard, from yard 1 upward
abbrev pub division_lines : ℕ → ℕ → List Token → Option (List StatedLine × List Token)
division_lines agents items ts = in_turn (division_line agents items) 1 agents ts

-- "a division as the box prints it, but without the cutters line": "the last line is `(end)`", and nothing stands behind it
unfoldable pub division_text : ℕ → ℕ → List Token → Option Stated
division_text agents items ts₀ = do
  (grade, ts₁) ← division_head agents items ts₀
  (lines, ts₂) ← division_lines agents items ts₁
  ts₃ ← end_line ended ts₂
  Some (record { grade = grade; lines = lines })

-- no sheet has counts beyond its limits, and no division of one is read
unfoldable pub reading_division : ℕ → ℕ → List Token → Option Stated
reading_division agents items ts = cond (leb agents most_agents && leb items most_items) (division_text agents items ts) None
