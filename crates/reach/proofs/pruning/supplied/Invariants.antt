-- The loop's invariant: the sum and what the values from i on supply are what all values that count
-- supply.
use mathlib.Core.Path.{◌≡◌}
use Prim.Native.Nat.{◌+◌, ◌*◌, ◌≤◌}
use lib.ListN.{take, drop}
use Rattle.sheet.specs.Limits.{most_items, greatest_sum}
use Rattle.reach.specs.Pruning.{supply, counted_supply}
use Rattle.reach.proofs.pruning.supplied.Given as goal

abbrev pub invariant-loop-value : goal.invariant-loop-value
invariant-loop-value l = (l.sum ≤ (greatest_sum + 1) * l.value-index) × (l.sum + supply l.threshold (drop l.value-index (take most_items l.values)) ≡ counted_supply l.most l.values)
