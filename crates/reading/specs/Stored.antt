-- What the code keeps of a sheet at the front of a text. Assumes nothing: these are definitions.
use Rattle.std.specs.Prelude.{List, ℕ}
use Rattle.sheet.specs.Contents.{Contents}
use Rattle.tokens.specs.Tokens.{Token}
use Rattle.tokeniser.specs.Places.{start}
use Rattle.tokeniser.specs.Behind.{place_left}
use Rattle.tokeniser.specs.declared.Cursor.{Cursor}

-- the sheet at the front of a text, and the place just behind its last line, where another text begins
abbrev pub stored_front : List ℕ → Contents × List Token → Contents × Cursor
stored_front s (c, ts) = (c, place_left s start ts)
