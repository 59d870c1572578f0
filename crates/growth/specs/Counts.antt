-- The recurrence that counts growth partitions, and the table of its numbers. Assumes nothing: these are definitions.
use Rattle.std.specs.Prelude.{cond, List, map, ℕ, zero, suc, ◌+◌, ◌-◌, ◌*◌, ltb}
use Rattle.lists.specs.Lists.{range, zeros, padded}
use Rattle.sheet.specs.Limits.{most_agents, most_items}

-- those of k more items into n bundles, where so many are in use: the next item goes to one of them, or opens the next new one.
-- proofs/Counted.antt shows that it counts the list
abbrev pub growth_count : (n used k : ℕ) → ℕ
growth_count n used zero = 1
growth_count n used (suc k) = used * growth_count n used k + cond (ltb used n) (growth_count n (suc used) k) 0

-- the places of a row: for each number of bundles in use, 0 to the most, and a blank one
abbrev pub used_places : ℕ
used_places = most_agents + 2

-- the row for k more items: at place `used` the number for so many bundles in use, from 0 to n; then 0
unfoldable pub count_row : ℕ → ℕ → List ℕ
count_row n k = padded used_places 0 (map (λ c. growth_count n (c - 1) k) (range 1 (n + 1)))

-- the rows for 0 to m more items; then blank ones
unfoldable pub count_table : ℕ → ℕ → List (List ℕ)
count_table n m = padded (most_items + 1) (zeros used_places) (map (λ c. count_row n (c - 1)) (range 1 (m + 1)))
