-- The places behind the tokens that are read from a place on. Assumes nothing: these are definitions.
use Rattle.std.specs.Prelude.{List, ℕ, zero, suc, ◌-◌, length}
use Rattle.tokens.specs.Tokens.{Token}
use Rattle.tokeniser.specs.Places.{tokens_at}
use Rattle.tokeniser.specs.NextToken.{next_token}
use Rattle.tokeniser.specs.declared.Cursor.{Cursor}

-- the place just behind so many tokens
unfoldable pub behind : List ℕ → Cursor → ℕ → Cursor
behind s c zero = c
behind s c (suc k) = behind s (next_token s c).next k

-- the place where of the tokens that follow a place these are left: just behind the last of the others
abbrev pub place_left : List ℕ → Cursor → List Token → Cursor
place_left s c ts = behind s c (length (tokens_at s c) - length ts)
