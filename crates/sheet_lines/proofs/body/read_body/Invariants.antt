-- The loop's invariant: the lines still due, behind those in the table, are what is to be read.
use mathlib.Core.Path.{◌≡◌}
use lib.ListN.{length}
use Rattle.sheet.specs.Limits.{most_agents, mark_digits}
use Rattle.tokeniser.specs.Places.{tokens_at}
use Rattle.tokeniser.proofs.Behind.{Reached}
use Rattle.sheet_lines.specs.Grammar.{body}
use Rattle.sheet_lines.specs.Results.{body_from}
use Rattle.sheet_lines.proofs.kept.InTurn.{rows_read, lines_gathered}
use Rattle.sheet_lines.proofs.body.read_body.Given as goal

abbrev pub invariant-loop-k : goal.invariant-loop-k
invariant-loop-k l = (length l.table ≡ most_agents) × Reached l.s l.initial.here l.here
    × (body_from l.s l.initial.here (body mark_digits l.agents l.items (tokens_at l.s l.initial.here))
    ≡ lines_gathered l.s l.initial.here l.items l.agents l.k (rows_read l.allowed l.table) (tokens_at l.s l.here))
