-- The tokens of a sheet's lines: what the laws of the strict text go through. Assumes nothing: these are definitions.
use mathlib.Core.List.{List, [], ◌∷◌, ◌++◌, map}
use Prim.Native.Nat.{ℕ, ◌+◌}
use Rattle.text.specs.Decimal.{decimal}
use Rattle.tokens.specs.Tokens.{Token}
use Rattle.lexing.specs.Forms.{form}
use Rattle.sheet_lines.specs.SheetForms.{before_agents, before_items, before_turn, before_marks, line_end, last_line}
use Rattle.sheet_lines.specs.Grammar.{Body}

-- the tokens of the head
unfoldable pub head_tokens : ℕ → ℕ → List Token
head_tokens agents items = form before_agents ++ (decimal agents ∷ []) ++ form before_items ++ (decimal items ∷ []) ++ form line_end

-- the tokens of entries one after another, the first of them with the number `turn`
unfoldable pub tokens_in_turn : {A : Type 0} → (ℕ → A → List Token) → ℕ → List A → List Token
tokens_in_turn tokens_of turn [] = []
tokens_in_turn tokens_of turn (a ∷ others) = tokens_of turn a ++ tokens_in_turn tokens_of (turn + 1) others

-- the tokens of a yard line up to its marks, of the line, and of the lines from the given yard on
unfoldable pub turn_tokens : ℕ → List Token
turn_tokens yard = form before_turn ++ (decimal yard ∷ []) ++ form before_marks

unfoldable pub yard_tokens : ℕ → List ℕ → List Token
yard_tokens yard row = turn_tokens yard ++ map decimal row ++ form line_end

abbrev pub yards_tokens : ℕ → List (List ℕ) → List Token
yards_tokens yard rows = tokens_in_turn yard_tokens yard rows

-- the tokens of the lines between the first line and the line `(end)`
unfoldable pub body_tokens : Body → List Token
body_tokens lines = yards_tokens 1 lines.rows

-- the tokens of a sheet with these counts and these lines
unfoldable pub sheet_tokens : ℕ → ℕ → Body → List Token
sheet_tokens agents items lines = head_tokens agents items ++ (body_tokens lines ++ form last_line)
