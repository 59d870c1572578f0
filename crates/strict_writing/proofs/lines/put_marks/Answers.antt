use native.Mathlib.Omega.{arith}
use Rattle.text.specs.Decimal.{spaced_numbers}
use Rattle.text.proofs.Spaced.{spaced_numbers-next}
use Rattle.writing.proofs.Written.{nothing, ◌then◌}
use Rattle.strict_writing.proofs.lines.put_marks.Goals as goal

pub loop-mark-init : goal.loop-mark-init
unfolding spaced_numbers
loop-mark-init c = nothing

pub loop-mark-preserved : goal.loop-mark-preserved
loop-mark-preserved c =
    let l = c.loop-mark in
    rw (spaced_numbers-next c.args.marks.now l.mark-index (omega arith)) (l.invariant then rw c.from.ensures at c.spaced_number.ensures)
