-- The loop's invariant: the marks still due, behind those in the row, are what is to be read.
use mathlib.Core.Path.{◌≡◌}
use lib.ListN.{length}
use Rattle.sheet.specs.Limits.{most_items, mark_digits}
use Rattle.tokeniser.specs.Places.{tokens_at}
use Rattle.tokeniser.proofs.Behind.{Reached}
use Rattle.sheet_lines.specs.Grammar.{marks}
use Rattle.sheet_lines.specs.internal.Results.{marks_from}
use Rattle.sheet_lines.proofs.kept.InTurn.{row_read, marks_gathered}
use Rattle.sheet_lines.proofs.yards.read_marks.Given as goal

abbrev pub invariant-loop-k : goal.invariant-loop-k
invariant-loop-k l = (length l.row ≡ most_items) × Reached l.s l.initial.here l.here
    × (marks_from l.s l.initial.here (marks mark_digits l.items (tokens_at l.s l.initial.here)) ≡ marks_gathered l.s l.initial.here l.items l.k (row_read l.allowed l.row) (tokens_at l.s l.here))
