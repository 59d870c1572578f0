-- The loop's invariant: the count is what is left of it and what the first bundles need.
use mathlib.Core.Path.{◌≡◌}
use Prim.Native.Nat.{◌+◌}
use Rattle.reach.specs.Loads.{load_of}
use Rattle.reach.specs.Pruning.{needed_by}
use Rattle.reach.proofs.pruning.needs_more.Given as goal

abbrev pub invariant-loop-load : goal.invariant-loop-load
invariant-loop-load l = l.count ≡ l.left + needed_by l.goal (load_of l.loads) l.load-index l.most
