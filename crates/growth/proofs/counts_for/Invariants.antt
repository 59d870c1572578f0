-- The loop's invariant: the rows up to `left` are filled, and `row` is the last.
use mathlib.Core.Path.{◌≡◌}
use mathlib.Core.List.{List, map}
use Prim.Native.Nat.{ℕ, ◌+◌, ◌-◌}
use Rattle.lists.specs.Lists.{range, zeros, padded}
use Rattle.sheet.specs.Limits.{most_items}
use Rattle.growth.specs.Counts.{used_places, count_row}
use Rattle.growth.proofs.counts_for.Given as goal

-- the table with the first rows filled
abbrev pub filled_to : ℕ → ℕ → List (List ℕ)
filled_to n rows = padded (most_items + 1) (zeros used_places) (map (λ c. count_row n (c - 1)) (range 1 rows))

abbrev pub invariant-loop-left : goal.invariant-loop-left
invariant-loop-left l = l.counts ≡ filled_to l.most (l.left + 1)
