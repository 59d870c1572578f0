-- The loop's invariant: the first marks are written.
use lib.ListN.{take}
use Rattle.text.specs.Decimal.{spaced_numbers}
use Rattle.writing.specs.WithText.{Writes}
use Rattle.strict_writing.proofs.lines.put_marks.Given as goal

abbrev pub invariant-loop-mark : goal.invariant-loop-mark
invariant-loop-mark l = Writes l.initial.line (spaced_numbers (take l.mark-index l.marks)) l.line
