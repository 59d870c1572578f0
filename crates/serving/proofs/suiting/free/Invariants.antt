-- The loop's invariant: the free ones of the bundles 1 .. i are found.
use mathlib.Core.Path.{◌≡◌}
use Rattle.lists.specs.Lists.{range}
use Rattle.matching.specs.Matching.{free_bundles}
use Rattle.serving.specs.Serving.{suits_of}
use Rattle.serving.proofs.suiting.free.Given as goal

abbrev pub invariant-loop-i : goal.invariant-loop-i
invariant-loop-i l = l.free ≡ free_bundles (suits_of l.suiting) l.waiting (range 1 l.i)
