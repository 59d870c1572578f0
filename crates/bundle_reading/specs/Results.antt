-- What the code's reader of a bundle answers for what is read from the tokens at a place: nothing, or the set, and the place just behind it.
-- Assumes nothing: these are definitions.
use Rattle.std.specs.Prelude.{List, ℕ, Option}
use Rattle.sheet.specs.Sets.{set_of}
use Rattle.tokens.specs.Tokens.{Token}
use Rattle.tokeniser.specs.declared.Cursor.{Cursor}
use Rattle.lexing.specs.Results.{found_from}

-- a bundle, as a set
abbrev pub bundle_from : List ℕ → Cursor → Option (List ℕ × List Token) → Option (ℕ × Cursor)
bundle_from s c o = found_from set_of s c o
