-- The parts of one round of agents that a sheet can have: who waits and who is served rises again, and the bundles are those of a sheet.
-- Assumes nothing.
use mathlib.Core.Path.{◌≡◌, ◌∙◌}
use mathlib.Core.Bool.{Bool}
use mathlib.Core.List.{List}
use mathlib.Core.List.Sublistᴰ.{trans as sublist-trans}
use mathlib.Core.List.{Sublistᴰ as Sublist}
use Prim.Native.Nat.{ℕ, ◌^◌, ◌≤◌, ◌<◌}
use native.Mathlib.Omega.{arith}
use lib.ListN.{length}
use Rattle.lists.specs.Lists.{range, Within}
use Rattle.lists.proofs.ranges.Ranges.{within-mem, mem-within, range-sublist}
use Rattle.lists.proofs.members.Counting.{sublist-mem}
use Rattle.lists.proofs.ranges.RangeSublists.{range-sublist-few}
use Rattle.sheet.specs.Limits.{most_agents, set_bits}
use Rattle.sheet.specs.Sets.{items_of, set_of}
use Rattle.sheet.proofs.sets.Sets.{items-set_of}
use Rattle.sheet.proofs.sets.Ranges.{set_of-below}
use Rattle.matching.specs.Matching.{waiting_of, served_of, free_of, chosen_of}
use Rattle.matching.proofs.AllServed.{waiting-sublist}
use Rattle.matching.proofs.Parts.{served_of-sublist, free_of-sublist, chosen_of-within, chosen_of-few}
use Rattle.serving.specs.Serving.{agents_in}
use Rattle.serving.proofs.round.AgentsLeft.{agents_in-items}

module _ (suits : ℕ → ℕ → Bool) (cutter : ℕ) {agents : List ℕ} (rising : Sublist agents (range 1 most_agents)) where
  pub waiting-rising : Sublist (waiting_of suits cutter agents) (range 1 most_agents)
  waiting-rising = sublist-trans (waiting-sublist suits cutter agents) rising

  pub served-rising : Sublist (served_of suits cutter agents) (range 1 most_agents)
  served-rising = sublist-trans (served_of-sublist suits cutter agents) rising

  bundles-sublist : Sublist (range 1 (length agents)) (range 1 most_agents)
  bundles-sublist = range-sublist 1 (length agents) most_agents (range-sublist-few most_agents rising)

  pub free-rising : Sublist (free_of suits cutter agents) (range 1 most_agents)
  free-rising = sublist-trans (free_of-sublist suits cutter agents) bundles-sublist

  pub chosen_within : Within most_agents (chosen_of suits cutter agents)
  chosen_within =
      mem-within most_agents (chosen_of suits cutter agents)
      (λ bundle m. sublist-mem bundles-sublist (within-mem (length agents) (chosen_of suits cutter agents) (chosen_of-within suits cutter agents) bundle m))

  pub chosen-few : length (chosen_of suits cutter agents) ≤ most_agents
  chosen-few = omega (arith, chosen_of-few suits cutter agents, range-sublist-few most_agents served-rising)

  -- the set of the agents that wait, and the agents in it
  pub waiting-below : set_of (waiting_of suits cutter agents) < 2 ^ most_agents
  waiting-below = set_of-below most_agents waiting-rising

  pub waiting-named : Sublist (waiting_of suits cutter agents) (range 1 set_bits)
  waiting-named = sublist-trans waiting-rising (range-sublist 1 most_agents set_bits (omega arith))

  pub items-waiting : items_of (set_of (waiting_of suits cutter agents)) ≡ waiting_of suits cutter agents
  items-waiting = items-set_of (waiting_of suits cutter agents) waiting-named

  pub agents_in-waiting : agents_in (set_of (waiting_of suits cutter agents)) ≡ waiting_of suits cutter agents
  agents_in-waiting = agents_in-items (set_of (waiting_of suits cutter agents)) waiting-below ∙ items-waiting
