-- What the code's readers answer for what the definitions read from the tokens at a place: nothing, or what is read, and the place just
-- behind the last token that was read. Assumes nothing: these are definitions.
use Rattle.std.specs.Prelude.{List, ℕ, Option, None, Some}
use Rattle.tokens.specs.Tokens.{Token}
use Rattle.tokeniser.specs.Behind.{place_left}
use Rattle.tokeniser.specs.declared.Cursor.{Cursor}

-- the place where a reader leaves these tokens
unfoldable pub place_after : List ℕ → Cursor → Option (List Token) → Option Cursor
place_after s c None = None
place_after s c (Some ts) = Some (place_left s c ts)

-- what is read, as the code keeps it, and the place behind it
unfoldable pub found_from : {A B : Type 0} → (A → B) → List ℕ → Cursor → Option (A × List Token) → Option (B × Cursor)
found_from kept s c None = None
found_from kept s c (Some (a, ts)) = Some (kept a, place_left s c ts)

-- a number
abbrev pub number_from : List ℕ → Cursor → Option (ℕ × List Token) → Option (ℕ × Cursor)
number_from s c o = found_from (λ n. n) s c o
