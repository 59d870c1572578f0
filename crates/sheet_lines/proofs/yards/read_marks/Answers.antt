use mathlib.Core.Path.{refl, sym, ap, ◌∙◌}
use Rattle.std.specs.Prelude.{Some}
use lib.ListN.{length-set}
use Rattle.tokeniser.proofs.Behind.{reached-here, reached_then, reached-place}
use Rattle.lexing.proofs.readers.Places.{found-none, number-at-read}
use Rattle.lexing.proofs.readers.Gathered.{next-missed, next-gathered, all-gathered}
use Rattle.sheet_lines.proofs.kept.InTurn.{row_read, no-mark-gathered}
use Rattle.sheet_lines.proofs.yards.read_marks.Goals as goal

pub loop-k-init : goal.loop-k-init
loop-k-init c = (refl, reached-here, no-mark-gathered _ _ _ _ c.requires)

pub returns-in_err-mark : goal.returns-in_err-mark
returns-in_err-mark c =
    let missed = found-none _ _ _ _ c.in_err-mark.ensures in
    c.from_residual.ensures ∙ next-missed _ _ _ _ _ _ _ _ c.loop-k-test.true missed ∙ sym c.loop-k.invariant.2

pub loop-k-preserved : goal.loop-k-preserved
loop-k-preserved c =
    let h = number-at-read _ _ _ c.in_ok-mark.ensures in (
      simp length-set c.loop-k.invariant.0,
      reached_then c.loop-k.invariant.1 h.reached,
      c.loop-k.invariant.2 ∙ next-gathered _ _ _ _ _ _ _ _ _ _ c.loop-k-test.true h.read,
    )

pub returns : goal.returns
returns c =
    let l = c.loop-k in
    ap (λ place. Some (row_read l.allowed l.row, place)) (reached-place l.invariant.1) ∙ all-gathered _ _ _ _ _ _ _ _ c.loop-k-test.false ∙ sym l.invariant.2
