-- The loop's invariant: the lines still due, behind those in their places, are what is to be read.
use mathlib.Core.Path.{◌≡◌}
use lib.ListN.{length}
use Rattle.sheet.specs.Limits.{most_agents}
use Rattle.tokeniser.specs.Places.{tokens_at}
use Rattle.tokeniser.proofs.Behind.{Reached}
use Rattle.division_reading.specs.Grammar.{division_lines}
use Rattle.division_reading.specs.internal.Results.{lines_from}
use Rattle.division_reading.proofs.kept.InTurn.{lines_gathered}
use Rattle.division_reading.proofs.lines.division_lines.Given as goal

abbrev pub invariant-loop-k : goal.invariant-loop-k
invariant-loop-k l = (length l.lines ≡ most_agents) × Reached l.s l.initial.here l.here
    × (lines_from l.s l.initial.here (division_lines l.fn.counts.agents l.fn.counts.items (tokens_at l.s l.initial.here)) ≡ lines_gathered l.fn.counts.agents l.fn.counts.items l.s l.initial.here l.k l.lines (tokens_at l.s l.here))
