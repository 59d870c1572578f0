use mathlib.Core.Path.{◌∙◌}
use Rattle.std.proofs.Math.Nat.{min-eq_left}
use Rattle.lexing.proofs.readers.Places.{place-none, none-found, found-then, follow_number-read}
use Rattle.division_reading.specs.Grammar.{bundle_in_turn}
use Rattle.bundle_reading.proofs.Places.{bundle_after-leaves}
use Rattle.division_reading.proofs.lines.bundle_in_turn.Goals as goal

pub returns-in_err-next : goal.returns-in_err-next
unfolding bundle_in_turn
returns-in_err-next c = c.from_residual.ensures ∙ none-found _ _ _ (rw (place-none _ _ _ c.in_err-next.ensures))

pub returns : goal.returns
unfolding bundle_in_turn
returns c =
    let h = follow_number-read _ _ _ _ _ c.in_ok-next.ensures in
    rw h.read ((rw (min-eq_left c.args.counts.few_items) at c.bundle_after.ensures) ∙ found-then _ _ h.reached (bundle_after-leaves _ _ _))
