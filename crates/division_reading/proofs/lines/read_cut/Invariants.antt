-- The loop's invariant: the bundles still due, behind those in their places, are the cut.
use mathlib.Core.Path.{◌≡◌}
use lib.ListN.{length}
use Rattle.sheet.specs.Limits.{most_agents}
use Rattle.tokeniser.specs.Places.{tokens_at}
use Rattle.tokeniser.proofs.Behind.{Reached}
use Rattle.division_reading.specs.Grammar.{cut_bundles}
use Rattle.division_reading.specs.internal.Results.{cut_from}
use Rattle.division_reading.proofs.kept.InTurn.{cut_gathered}
use Rattle.division_reading.proofs.lines.read_cut.Given as goal

abbrev pub invariant-loop-k : goal.invariant-loop-k
invariant-loop-k l = (length l.sets ≡ most_agents) × Reached l.s l.initial.here l.here
    × (cut_from l.s l.initial.here (cut_bundles l.fn.counts.agents l.fn.counts.items (tokens_at l.s l.initial.here)) ≡ cut_gathered l.fn.counts.agents l.fn.counts.items l.s l.initial.here l.k l.sets (tokens_at l.s l.here))
