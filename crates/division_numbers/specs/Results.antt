-- What the code's reader of a worth and a share answers for what is read from the tokens at a place: nothing, or the two, and the place just
-- behind them. Assumes nothing: these are definitions.
use Rattle.std.specs.Prelude.{List, ℕ, Option, None, Some}
use Rattle.tokens.specs.Tokens.{Token}
use Rattle.tokeniser.specs.Behind.{place_left}
use Rattle.tokeniser.specs.declared.Cursor.{Cursor}

-- a worth and a share
unfoldable pub amounts_from : List ℕ → Cursor → Option (ℕ × ℕ × List Token) → Option (ℕ × ℕ × Cursor)
amounts_from s c None = None
amounts_from s c (Some (worth, share, ts)) = Some (worth, share, place_left s c ts)
