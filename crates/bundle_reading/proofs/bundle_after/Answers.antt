use mathlib.Core.Path.{ap₂, ◌∙◌}
use Rattle.std.specs.Prelude.{Some}
use Rattle.lexing.specs.Results.{found_from}
use Rattle.tokeniser.proofs.Behind.{reached_then, reached-place}
use Rattle.lexing.proofs.readers.Places.{place-none, found-none, found-to, none-found, follow-read}
use Rattle.bundle_reading.specs.Bundles.{bundle_after}
use Rattle.bundle_reading.proofs.Places.{rising_items-leaves}
use Rattle.bundle_reading.proofs.bundle_after.Goals as goal

pub returns-in_err-first : goal.returns-in_err-first
unfolding bundle_after
returns-in_err-first c = c.from_residual.ensures ∙ none-found _ _ _ (rw (place-none _ _ _ c.in_err-first.ensures))

pub returns-in_err-set : goal.returns-in_err-set
unfolding bundle_after
returns-in_err-set c =
    let form = follow-read _ _ _ c.in_ok-first.ensures in
    let missed = found-none _ _ _ _ (rw c.min.ensures at c.in_err-set.ensures) in
    c.from_residual-in_err-set.ensures ∙ none-found _ _ _ (rw (form.read, missed))

pub returns-in_err-next : goal.returns-in_err-next
unfolding bundle_after
returns-in_err-next c =
    let form = follow-read _ _ _ c.in_ok-first.ensures in
    let items = found-to _ _ _ _ (rising_items-leaves _ 0 _) (rw c.min.ensures at c.in_ok-set.ensures) in
    c.from_residual-in_err-next.ensures ∙ none-found _ _ _ (rw (form.read, items.to.read, place-none _ _ _ c.in_err-next.ensures))

pub returns : goal.returns
unfolding bundle_after found_from
returns c =
    let form = follow-read _ _ _ c.in_ok-first.ensures in
    let items = found-to _ _ _ _ (rising_items-leaves _ 0 _) (rw c.min.ensures at c.in_ok-set.ensures) in
    let end = follow-read _ _ _ c.in_ok-next.ensures in
    rw (form.read, items.to.read, end.read)
    (ap₂ (λ set place. Some (set, place)) items.is_kept (reached-place (reached_then form.reached (reached_then items.to.reached end.reached))))
