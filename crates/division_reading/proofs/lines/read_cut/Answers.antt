use mathlib.Core.Path.{refl, sym, ap, ◌∙◌}
use Rattle.std.specs.Prelude.{Some}
use Rattle.std.proofs.Math.Nat.{min-eq_left}
use lib.ListN.{length-set}
use Rattle.tokeniser.proofs.Behind.{reached-here, reached_then, reached-place}
use Rattle.lexing.proofs.readers.Places.{found-none}
use Rattle.lexing.proofs.readers.Gathered.{next-missed, next-gathered, all-gathered}
use Rattle.bundle_reading.proofs.Places.{bundle_after-read}
use Rattle.division_reading.proofs.kept.InTurn.{no-bundle-gathered}
use Rattle.division_reading.proofs.lines.read_cut.Goals as goal

pub loop-k-init : goal.loop-k-init
loop-k-init c = (refl, reached-here, no-bundle-gathered _ _ _ _ _ c.args.counts.few)

pub returns-in_err-set : goal.returns-in_err-set
returns-in_err-set c =
    let missed = found-none _ _ _ _ (rw (min-eq_left c.args.counts.few_items) at c.in_err-set.ensures) in
    c.from_residual.ensures ∙ next-missed _ _ _ _ _ _ _ _ c.loop-k-test.true missed ∙ sym c.loop-k.invariant.2

pub loop-k-preserved : goal.loop-k-preserved
loop-k-preserved c =
    let bundle = bundle_after-read _ _ _ _ (rw (min-eq_left c.args.counts.few_items) at c.in_ok-set.ensures) in (
      simp length-set c.loop-k.invariant.0,
      reached_then c.loop-k.invariant.1 bundle.to.reached,
      rw bundle.is_kept (c.loop-k.invariant.2 ∙ next-gathered _ _ _ _ _ _ _ _ _ _ c.loop-k-test.true bundle.to.read),
    )

pub returns : goal.returns
returns c =
    let l = c.loop-k in
    ap (λ place. Some (l.sets, place)) (reached-place l.invariant.1) ∙ all-gathered _ _ _ _ _ _ _ _ c.loop-k-test.false ∙ sym l.invariant.2
