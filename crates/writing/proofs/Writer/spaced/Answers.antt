use native.Mathlib.Omega.{arith}
use Rattle.text.specs.Decimal.{spaced_numbers}
use Rattle.text.proofs.Spaced.{spaced_numbers-next}
use Rattle.writing.proofs.Written.{nothing, ◌then◌}
use Rattle.writing.proofs.Writer.spaced.Goals as goal

pub loop-n-init : goal.loop-n-init
unfolding spaced_numbers
loop-n-init c = nothing

pub loop-n-preserved : goal.loop-n-preserved
loop-n-preserved c =
    let l = c.loop-n in
    rw (spaced_numbers-next c.args.numbers.now l.n-index (omega arith)) (l.invariant then rw c.from.ensures at c.spaced_number.ensures)
