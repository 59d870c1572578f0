use mathlib.Core.Path.{◌≡◌, sym, ap, ◌∙◌}
use native.Mathlib.Omega.{arith}
use Rattle.std.specs.Prelude.{None, Some}
use Rattle.tokeniser.specs.Places.{tokens_at}
use Rattle.tokeniser.proofs.Behind.{reached-here, reached_then, reached-place}
use Rattle.lexing.proofs.readers.Places.{found-none, number-at-read, none-found}
use Rattle.bundle_reading.specs.Bundles.{rising_items}
use Rattle.bundle_reading.proofs.ItemsInTurn.{no_item, item-not-above, item-not-on-sheet, item-rises, behind_set, none_before, item-before, all-before, higher-item}
use Rattle.bundle_reading.proofs.rising_items.Goals as goal
use Rattle.bundle_reading.proofs.rising_items.Goals.{then-item-above-via-then-item-above, then-item-above-via-else-item-above+then-items-item}

pub loop-number-init : goal.loop-number-init
loop-number-init c = (omega arith, omega arith, reached-here, none_before _ _ _)

pub returns-then-item-above : goal.returns-then-item-above
returns-then-item-above c =
    let item = number-at-read _ _ _ c.in-Some.ensures in
    let above = c.loop-number.above in
    let ts = tokens_at c.args.s.now c.loop-number.here in
    let none : rising_items c.args.items above ts ≡ None =
    elim c.then-item-above.branch [
      | then-item-above-via-then-item-above w ↦ item-not-above _ _ _ _ _ item.read w.if-item-above.true
      | then-item-above-via-else-item-above+then-items-item w ↦ item-not-on-sheet _ _ _ _ _ item.read w.if-item-above.false w.if-items-item.true
    ] in
    none-found _ _ _ none ∙ sym c.loop-number.invariant.3

pub loop-number-preserved : goal.loop-number-preserved
loop-number-preserved c =
    let l = c.loop-number in
    let k = c.in-Some.number in
    let item = number-at-read _ _ _ c.in-Some.ensures in (
      omega arith,
      rw c.set_of_item-set.ensures (higher-item l.set l.above k l.invariant.1 (omega arith)),
      reached_then l.invariant.2 item.reached,
      rw c.set_of_item-set.ensures (l.invariant.3 ∙ ap (behind_set l.set _ _) (item-rises _ _ _ _ _ item.read (omega arith) (omega arith)) ∙ item-before _ _ l.set k _),
    )

pub returns : goal.returns
returns c =
    let l = c.loop-number in
    let missed = found-none _ _ _ _ c.in_default.ensures in
    rw (l.invariant.3 ∙ ap (behind_set l.set _ _) (no_item _ _ _ missed) ∙ all-before _ _ _ _) (ap (λ place. Some (l.set, place)) (reached-place l.invariant.2))
