-- The loop's invariant: the amount is what is left of it and what the first bundles lack.
use mathlib.Core.Path.{◌≡◌}
use Prim.Native.Nat.{◌+◌}
use Rattle.reach.specs.Loads.{load_of}
use Rattle.reach.specs.Pruning.{demand}
use Rattle.reach.proofs.pruning.lacks_more.Given as goal

abbrev pub invariant-loop-load : goal.invariant-loop-load
invariant-loop-load l = l.amount ≡ l.left + demand l.goal (load_of l.loads) l.load-index l.most
