-- The loop's invariant: the served ones of the agents so far are found.
use mathlib.Core.Path.{◌≡◌}
use lib.ListN.{take}
use Rattle.matching.specs.Matching.{served_agents}
use Rattle.serving.proofs.served.served.Given as goal

abbrev pub invariant-loop-agent : goal.invariant-loop-agent
invariant-loop-agent l = l.served ≡ served_agents l.waiting (take l.agent-index l.agent-items)
