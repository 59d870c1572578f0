-- The loop's invariant: the places below `used` are filled.
use mathlib.Core.Path.{◌≡◌}
use mathlib.Core.List.{List, map}
use Prim.Native.Nat.{ℕ, ◌+◌, ◌-◌, ◌≤◌}
use Rattle.lists.specs.Lists.{range, padded}
use Rattle.sheet.specs.Limits.{most_agents}
use Rattle.growth.specs.Counts.{used_places}
use Rattle.growth.specs.internal.Rows.{one_more}
use Rattle.growth.proofs.next_row.Given as goal

-- the next row with the places below `used` filled
abbrev pub filled_to : List ℕ → ℕ → List ℕ
filled_to row used = padded used_places 0 (map (λ c. one_more row (c - 1)) (range 1 used))

abbrev pub invariant-loop-used : goal.invariant-loop-used
invariant-loop-used l = (l.used ≤ most_agents + 1) × (l.next ≡ filled_to l.row l.used)
