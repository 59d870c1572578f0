use native.Mathlib.Omega.{arith}
use lib.ListN.{take}
use Rattle.writing.proofs.Written.{nothing, ◌then◌}
use Rattle.strict_text.specs.StrictText.{yard_texts}
use Rattle.strict_text.proofs.RowsInUse.{yard_texts-next}
use Rattle.strict_writing.proofs.lines.put_yards.Goals as goal

pub loop-i-init : goal.loop-i-init
unfolding yard_texts
loop-i-init c = nothing

pub loop-i-preserved : goal.loop-i-preserved
loop-i-preserved c =
    let l = c.loop-i in
    rw (yard_texts-next c.args.contents.items (take c.min-agents.result c.args.contents.table) l.i (omega arith)) (l.invariant then c.put_yard.ensures)
