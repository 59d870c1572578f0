-- What the code stores in the place of a length. Assumes nothing: this is a definition.
use Rattle.std.specs.Prelude.{List, ℕ, length}

-- what is stored in the place of a length that is lent: that of the text
abbrev pub length_stored : List ℕ → ℕ → ℕ
length_stored text old = length text
