-- The loop's invariant: the lines of the first i agents are written.
use mathlib.Core.List.{flat_map}
use Rattle.lists.specs.Lists.{range}
use Rattle.writing.specs.WithText.{Writes}
use Rattle.printed_division.specs.OutcomeText.{outcome_line}
use Rattle.printed_division.proofs.put_yards.Given as goal

abbrev pub invariant-loop-i : goal.invariant-loop-i
invariant-loop-i l = Writes l.initial.writer (flat_map (outcome_line l.fn.counts.agents l.fn.counts.items l.division.bundles l.division.worths l.division.shares l.division.cuts) (range 1 l.i)) l.writer
