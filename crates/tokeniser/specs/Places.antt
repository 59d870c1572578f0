-- What a place of a text, the code's cursor, means: the tokens that follow it. Assumes nothing: these are definitions.
use Rattle.std.specs.Prelude.{List, false, ℕ, min, length, drop}
use Rattle.tokens.specs.Tokens.{Token}
use Rattle.tokens.specs.TokensAfter.{tokens_after}
use Rattle.tokeniser.specs.declared.Cursor.{Cursor}

-- the tokens that follow a place; a place beyond the end has none
unfoldable pub tokens_at : List ℕ → Cursor → List Token
tokens_at s c = tokens_after c.begun (drop c.at s)

-- the place before the first byte, where a line begins
abbrev pub start : Cursor
start = record { at = 0; begun = false }

-- a place beyond the end of the text counts as its end
unfoldable pub inside : List ℕ → Cursor → Cursor
inside s c = record { at = min c.at (length s); begun = c.begun }
