use mathlib.Core.Path.{ap, ap₂, ◌∙◌}
use Rattle.std.specs.Prelude.{Option, Some}
use mathlib.Core.List.{List}
use Prim.Native.Nat.{ℕ}
use Rattle.tokeniser.specs.declared.Cursor.{Cursor}
use Rattle.tokeniser.proofs.Behind.{reached_then, reached-place}
use Rattle.lexing.specs.Results.{found_from}
use Rattle.lexing.proofs.readers.Places.{place-none, found-none, found-to, none-found, follow-read}
use Rattle.division_numbers.proofs.Places.{stated_amounts-missed, stated_amounts-read}
use Rattle.division_reading.specs.Grammar.{division_line}
use Rattle.division_reading.specs.Outcome.{kept_line}
use Rattle.division_reading.specs.declared.StatedLine.{StatedLine}
use Rattle.division_reading.proofs.Suffixes.{bundle_in_turn-leaves, cut_bundles-leave}
use Rattle.division_reading.proofs.lines.division_line.Goals as goal

-- a line that is read, by its parts as they are kept, and the place behind it
abbrev stated : ℕ → ℕ → Cursor → ℕ → List ℕ → Option (StatedLine × Cursor)
stated worth share next bundle cut = Some (record { bundle = bundle; worth = worth; share = share; cut = cut }, next)

pub returns-in_err-bundle : goal.returns-in_err-bundle
unfolding division_line
returns-in_err-bundle c = c.from_residual.ensures ∙ none-found _ _ _ (rw (found-none _ _ _ _ c.in_err-bundle.ensures))

pub returns-in_err-worth : goal.returns-in_err-worth
unfolding division_line
returns-in_err-worth c =
    let bundle = found-to _ _ _ _ (bundle_in_turn-leaves _ _ _) c.in_ok-bundle.ensures in
    c.from_residual-in_err-worth.ensures ∙ none-found _ _ _ (rw (bundle.to.read, stated_amounts-missed _ _ _ c.in_err-worth.ensures))

pub returns-in_err-cut : goal.returns-in_err-cut
unfolding division_line
returns-in_err-cut c =
    let bundle = found-to _ _ _ _ (bundle_in_turn-leaves _ _ _) c.in_ok-bundle.ensures in
    let amounts = stated_amounts-read _ _ c.in_ok-worth.ensures in
    c.from_residual-in_err-cut.ensures ∙ none-found _ _ _ (rw (bundle.to.read, amounts.read, found-none _ _ _ _ c.in_err-cut.ensures))

pub returns-in_err-next : goal.returns-in_err-next
unfolding division_line
returns-in_err-next c =
    let bundle = found-to _ _ _ _ (bundle_in_turn-leaves _ _ _) c.in_ok-bundle.ensures in
    let amounts = stated_amounts-read _ _ c.in_ok-worth.ensures in
    let cut = found-to _ _ _ _ (cut_bundles-leave _ _ _) c.in_ok-cut.ensures in
    c.from_residual-in_err-next.ensures ∙ none-found _ _ _ (rw (bundle.to.read, amounts.read, cut.to.read, place-none _ _ _ c.in_err-next.ensures))

pub returns : goal.returns
unfolding division_line found_from
returns c =
    let bundle = found-to _ _ _ _ (bundle_in_turn-leaves _ _ _) c.in_ok-bundle.ensures in
    let amounts = stated_amounts-read _ _ c.in_ok-worth.ensures in
    let cut = found-to _ _ _ _ (cut_bundles-leave _ _ _) c.in_ok-cut.ensures in
    let end = follow-read _ _ _ c.in_ok-next.ensures in
    let reached = reached_then bundle.to.reached (reached_then amounts.reached (reached_then cut.to.reached end.reached)) in
    rw (bundle.to.read, amounts.read, cut.to.read, end.read)
    (ap₂ (stated c.in_ok-worth.worth c.in_ok-worth.share c.in_ok-next.next) bundle.is_kept cut.is_kept
    ∙ ap (λ place. Some (kept_line (record { bundle = bundle.value; worth = c.in_ok-worth.worth; share = c.in_ok-worth.share; cut = cut.value }), place)) (reached-place reached))
