use mathlib.Core.Path.{refl, sym, ap, ◌∙◌}
use Rattle.std.specs.Prelude.{Some}
use lib.ListN.{length-set}
use Rattle.tokeniser.proofs.Behind.{reached-here, reached_then, reached-place}
use Rattle.lexing.proofs.readers.Places.{found-none, found-to}
use Rattle.lexing.proofs.readers.Gathered.{next-missed, next-gathered, all-gathered}
use Rattle.division_reading.proofs.Suffixes.{division_line-leaves}
use Rattle.division_reading.proofs.kept.InTurn.{no-line-gathered}
use Rattle.division_reading.proofs.lines.division_lines.Goals as goal

pub loop-k-init : goal.loop-k-init
loop-k-init c = (refl, reached-here, no-line-gathered _ _ _ _ _ c.args.counts.few)

pub returns-in_err-line : goal.returns-in_err-line
returns-in_err-line c =
    let missed = found-none _ _ _ _ c.in_err-line.ensures in
    c.from_residual.ensures ∙ next-missed _ _ _ _ _ _ _ _ c.loop-k-test.true missed ∙ sym c.loop-k.invariant.2

pub loop-k-preserved : goal.loop-k-preserved
loop-k-preserved c =
    let line = found-to _ _ _ _ (division_line-leaves _ _ _ _) c.in_ok-line.ensures in (
      simp length-set c.loop-k.invariant.0,
      reached_then c.loop-k.invariant.1 line.to.reached,
      rw line.is_kept (c.loop-k.invariant.2 ∙ next-gathered _ _ _ _ _ _ _ _ _ _ c.loop-k-test.true line.to.read),
    )

pub returns : goal.returns
returns c =
    let l = c.loop-k in
    ap (λ place. Some (l.lines, place)) (reached-place l.invariant.1) ∙ all-gathered _ _ _ _ _ _ _ _ c.loop-k-test.false ∙ sym l.invariant.2
