-- The loop's invariant: the lines of the first agents are written.
use Rattle.writing.specs.WithText.{Writes}
use Rattle.strict_text.specs.StrictText.{yard_texts, rows_in_use}
use Rattle.strict_writing.proofs.lines.put_yards.Given as goal

abbrev pub invariant-loop-i : goal.invariant-loop-i
invariant-loop-i l = Writes l.initial.writer (yard_texts 1 (rows_in_use l.i l.fn.contents.items l.marks-items)) l.writer
