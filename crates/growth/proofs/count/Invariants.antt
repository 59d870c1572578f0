-- The loop's invariant: the row is that of so many items.
use mathlib.Core.Path.{◌≡◌}
use Prim.Native.Nat.{min}
use Rattle.sheet.specs.Limits.{most_agents}
use Rattle.growth.specs.Counts.{count_row}
use Rattle.growth.proofs.count.Given as goal

abbrev pub invariant-loop-laid : goal.invariant-loop-laid
invariant-loop-laid l = l.row ≡ count_row (min l.bundles most_agents) l._laid
