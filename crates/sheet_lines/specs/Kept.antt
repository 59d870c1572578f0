-- What is kept of the lines of the yards: a place for each yard, and in it one for each piece. Assumes nothing: these are definitions.
use Rattle.std.specs.Prelude.{List, map, ℕ, ◌+◌, ◌%◌}
use Rattle.lists.specs.Lists.{padded}
use Rattle.sheet.specs.Limits.{most_agents, most_items, greatest_mark, blank_row}

-- "six rows of twelve places": places beyond those in use are 0
abbrev pub table_of : List (List ℕ) → List (List ℕ)
table_of rows = padded most_agents blank_row (map (padded most_items 0) rows)

-- a mark as it is stored, before it is known whether it is allowed
abbrev pub reduced : ℕ → ℕ
reduced m = m % (greatest_mark + 1)

-- what the lines with these rows of marks give
abbrev pub kept_table : List (List ℕ) → List (List ℕ)
kept_table rows = table_of (map (map reduced) rows)
