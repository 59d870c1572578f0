use mathlib.Core.Path.{sym, ap, ◌∙◌}
use native.Mathlib.Omega.{arith}
use Rattle.std.specs.Prelude.{Some}
use lib.ListN.{length, length-set}
use Rattle.tokeniser.proofs.Behind.{reached-here, reached_then, reached-place}
use Rattle.lexing.proofs.readers.Places.{found-none, found-to}
use Rattle.lexing.proofs.readers.Gathered.{next-missed, next-gathered, all-gathered}
use Rattle.sheet_lines.proofs.Suffixes.{yard_line-leaves}
use Rattle.sheet_lines.proofs.kept.InTurn.{rows_read, no-line-gathered}
use Rattle.sheet_lines.proofs.body.read_body.Goals as goal

pub loop-k-init : goal.loop-k-init
loop-k-init c = (ap length c.blank-table.ensures, reached-here, rw c.blank-table.ensures (no-line-gathered _ _ _ _ _ (omega (arith, c.min-agents.ensures))))

pub returns-in_err-line : goal.returns-in_err-line
returns-in_err-line c =
    let missed = found-none _ _ _ _ c.in_err-line.ensures in
    rw (← c.min-agents.ensures, ← c.min-items.ensures) (c.from_residual.ensures ∙ next-missed _ _ _ _ _ _ _ _ c.loop-k-test.true missed ∙ sym c.loop-k.invariant.2)

pub loop-k-preserved : goal.loop-k-preserved
loop-k-preserved c =
    let h = found-to _ _ _ _ (yard_line-leaves _ _ _ _) c.in_ok-line.ensures in (
      simp length-set c.loop-k.invariant.0,
      reached_then c.loop-k.invariant.1 h.to.reached,
      rw h.is_kept (c.loop-k.invariant.2 ∙ next-gathered _ _ _ _ _ _ _ _ _ _ c.loop-k-test.true h.to.read),
    )

pub returns : goal.returns
returns c =
    let l = c.loop-k in
    rw (← c.min-agents.ensures, ← c.min-items.ensures)
    (ap (λ place. Some (rows_read l.allowed l.table, place)) (reached-place l.invariant.1) ∙ all-gathered _ _ _ _ _ _ _ _ c.loop-k-test.false ∙ sym l.invariant.2)
