-- The text of the margins of so many agents, as they stand in their places. Assumes nothing: these are definitions.
use mathlib.Core.List.{List, ◌++◌, flat_map}
use Rattle.std.specs.Prelude.{ℕ, ℤ, pos}
use Rattle.lists.specs.Lists.{range, nth}
use Rattle.text.specs.Bytes.{bytes}
use Rattle.text.specs.Decimal.{signed}

-- the margin of agent i behind a space
abbrev pub spaced_margin : List ℤ → ℕ → List ℕ
spaced_margin margins i = bytes " " ++ signed (nth (pos 0) margins i)

unfoldable pub margins_text : ℕ → List ℤ → List ℕ
margins_text agents margins = bytes "(accepted (margins" ++ flat_map (spaced_margin margins) (range 1 agents) ++ bytes "))\n"
