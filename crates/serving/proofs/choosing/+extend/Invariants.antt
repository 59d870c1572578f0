-- The proof of the cycle of calls {extend}. The measure is the number of agents that have no bundle yet.
-- The loop's invariant: the first matching is the first one that goes on with a bundle from the next place on.
use mathlib.Core.Path.{◌≡◌}
use Prim.Native.Nat.{◌-◌}
use lib.ListN.{length, drop}
use Rattle.serving.specs.Serving.{suits_of}
use Rattle.serving.specs.internal.Searching.{first_matching}
use Rattle.serving.proofs.searches.FirstMatching.{matching_from}
use Rattle.serving.proofs.choosing.+extend.Given as goal

abbrev pub decreases-extend : goal.decreases-extend
decreases-extend l = length l.served.now - length l.chosen

abbrev pub invariant-loop-bundle : goal.invariant-loop-bundle
invariant-loop-bundle l =
    first_matching (suits_of l.suiting) l.served l.free l.chosen ≡ matching_from (suits_of l.suiting) l.served l.free l.chosen (drop l.bundle-index l.free)
