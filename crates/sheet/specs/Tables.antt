-- A table of valuations (marks), and what of it is in use. Assumes nothing: these are definitions.
use Rattle.std.specs.Prelude.{◌≡◌, List, [], map, ℕ, ◌≤◌}
use Rattle.lists.specs.Lists.{range, nth}
use Rattle.sheet.specs.Valuations.{item_value}

-- the valuation (row of marks) of agent (yard) i
abbrev pub valuation_of : List (List ℕ) → ℕ → List ℕ
valuation_of table i = nth [] table i

-- the values that an agent puts on the items 1 .. m
abbrev pub all_values : ℕ → List ℕ → List ℕ
all_values m row = map (item_value row) (range 1 m)

-- "places beyond the yards and pieces in use count for nothing": the places in use of a table, n agents and m items
unfoldable pub profile : ℕ → ℕ → List (List ℕ) → List (List ℕ)
profile n m table = map (λ i. all_values m (valuation_of table i)) (range 1 n)

-- the tables have the same marks in the places in use
abbrev pub AgreeInUse : ℕ → ℕ → List (List ℕ) → List (List ℕ) → Type 0
AgreeInUse n m table table' = (agent k : ℕ) → 1 ≤ agent → agent ≤ n → 1 ≤ k → k ≤ m → item_value (valuation_of table agent) k ≡ item_value (valuation_of table' agent) k
