-- The printed answer to a division that is accepted (document 02, order 5). Assumes nothing: these are definitions.
use Rattle.std.specs.Prelude.{List, ◌++◌, ℕ, ◌+◌, ◌*◌, ℤ}
use Rattle.text.specs.Bytes.{bytes}
use Rattle.text.specs.Decimal.{spaced_signed}
use Rattle.sheet.specs.Limits.{most_agents}

-- "`(accepted (margins 10 0 2))`": "For each yard print its margin", and a line feed
unfoldable pub accepted_text : List ℤ → List ℕ
accepted_text margins = bytes "(accepted (margins" ++ spaced_signed margins ++ bytes "))\n"

-- the most digits of a margin: a whole number of 64 bits has no more
abbrev pub margin_digits : ℕ
margin_digits = 19

-- a buffer of so many bytes is long enough for every text (proofs/Longest.antt): (accepted (margins)) and the line feed, and a space, a sign and
-- the digits of a margin for each yard
abbrev pub longest_accepted : ℕ
longest_accepted = 21 + most_agents * (2 + margin_digits)
