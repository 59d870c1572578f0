-- The row of counts for one item more, from a row. Assumes nothing: these are definitions.
use Rattle.std.specs.Prelude.{List, map, ℕ, ◌+◌, ◌-◌, ◌*◌, ◌^◌, ◌≤◌, ◌<◌, get_or}
use Rattle.lists.specs.Lists.{range, padded}
use Rattle.sheet.specs.Limits.{most_agents}
use Rattle.growth.specs.Counts.{used_places}

-- the number for one item more where so many bundles are in use: the item goes to one of them, or opens the next new one
abbrev pub one_more : List ℕ → ℕ → ℕ
one_more row used = used * get_or row used 0 + get_or row (used + 1) 0

-- the row for one item more
unfoldable pub next_row : List ℕ → List ℕ
next_row row = padded used_places 0 (map (λ c. one_more row (c - 1)) (range 1 (most_agents + 1)))

-- its numbers have 32 bits
abbrev pub NextFits : List ℕ → Type 0
NextFits row = (used : ℕ) → used ≤ most_agents → one_more row used < 2 ^ 32
