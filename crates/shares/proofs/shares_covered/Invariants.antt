-- The loop's invariant: the makers' check holds for each of the first i agents.
use mathlib.Core.Path.{◌≡◌}
use mathlib.Core.Bool.{true}
use Rattle.lists.specs.Lists.{range, all}
use Rattle.shares.proofs.EachAgent.{is_covered}
use Rattle.shares.proofs.shares_covered.Given as goal

abbrev pub invariant-loop-i : goal.invariant-loop-i
invariant-loop-i l = all (is_covered l.contents.agents l.contents.items l.contents.table) (range 1 l.i) ≡ true
