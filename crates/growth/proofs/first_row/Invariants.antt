-- The loop's invariant: the places below `used` are filled.
use mathlib.Core.Path.{◌≡◌}
use mathlib.Core.List.{List, map}
use Prim.Native.Nat.{ℕ, ◌-◌}
use Rattle.lists.specs.Lists.{range, padded}
use Rattle.growth.specs.Counts.{growth_count, used_places}
use Rattle.growth.proofs.first_row.Given as goal

-- the row with the places below `used` filled
abbrev pub filled_to : ℕ → ℕ → List ℕ
filled_to n used = padded used_places 0 (map (λ c. growth_count n (c - 1) 0) (range 1 used))

abbrev pub invariant-loop-used : goal.invariant-loop-used
invariant-loop-used l = (l.row ≡ filled_to l.bundles l.used)
