-- The loop's invariant: `low` is the least of the first i loads.
use mathlib.Core.Path.{◌≡◌}
use Prim.Native.Nat.{◌≤◌, max}
use Rattle.lists.specs.Sums.{least_of}
use Rattle.reach.specs.Loads.{load_of}
use Rattle.reach.proofs.loads.least.Given as goal

abbrev pub invariant-loop-i : goal.invariant-loop-i
invariant-loop-i l = (l.i ≤ max 1 l.i-end) × (l.low ≡ least_of (load_of l.loads) l.i)
