-- The loop's invariant: the agents and sets that are left are still to be stored, each agent has a set, and is one of a sheet.
use mathlib.Core.Path.{◌≡◌}
use Prim.Native.Nat.{◌≤◌}
use lib.ListN.{length}
use Rattle.lists.specs.Lists.{Within}
use Rattle.sheet.specs.Limits.{most_agents}
use Rattle.division.specs.internal.Allocation.{stored}
use Rattle.division.proofs.dividing.store.Given as goal

abbrev pub invariant-loop-agent : goal.invariant-loop-agent
invariant-loop-agent l =
    let agents = l.agent-iterator.a.rest.now in
    let rest = l.agent-iterator.b.rest.now in
    record {
      stores : stored agents rest l.bundles ≡ stored l.fn.served l.fn.sets l.initial.bundles;
      within : Within most_agents agents;
      each : length agents ≤ length rest;
    }
