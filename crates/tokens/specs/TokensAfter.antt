-- The tokens of what is left of a text from a byte on, by what stands before it: whether a token stands before it on its line.
-- Assumes nothing: these are definitions.
use mathlib.Core.List.{List, [], ◌∷◌, flat_map}
use Rattle.std.specs.Prelude.{Bool, not, ◌&&◌, ◌||◌, ℕ, eqb}
use Rattle.lists.specs.Lists.{cons_if}
use Rattle.tokens.specs.Lines.{line_feed, space, semicolon, Line, lines_without_remarks, is_blank, without_blank_lines}
use Rattle.tokens.specs.Tokens.{Token, is_bracket, line_tokens}

-- what is left of lines of which the first may be the rest of one that has begun with a token: that one is not blank
abbrev pub left_after : Bool → List Line → List Line
left_after begun [] = []
left_after begun (l ∷ ls) = cons_if (begun || not (is_blank l)) l (without_blank_lines ls)

-- the tokens of a text that follows on a line that has begun with a token, or has not
unfoldable pub tokens_after : Bool → List ℕ → List Token
tokens_after begun s = flat_map line_tokens (left_after begun (lines_without_remarks s))

-- a byte that is a token by itself
abbrev pub is_delimiter : ℕ → Bool
is_delimiter b = is_bracket b || eqb b line_feed

-- whether a byte counts for nothing, on a line that has begun with a token, or not: a space, what begins a remark, the end of a blank line
abbrev pub counts_for_nothing : Bool → ℕ → Bool
counts_for_nothing begun b = eqb b space || eqb b semicolon || (not begun && eqb b line_feed)
