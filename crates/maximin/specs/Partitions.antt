-- The partitions (layouts) of items (pieces) into bundles (piles). Assumes nothing: these are definitions.
use Rattle.std.specs.Prelude.{List, ℕ}
use Rattle.lists.specs.Lists.{range}
use Rattle.lists.specs.Dictionary.{lists_over}

-- "A layout gives each piece of the set, in rising order, a pile from 1 to n; piles may be empty": those of k items, in dictionary order
abbrev pub partitions : ℕ → ℕ → List (List ℕ)
partitions n k = lists_over (range 1 n) k
