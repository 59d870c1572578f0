use mathlib.Core.Path.{ap, ◌∙◌}
use Rattle.std.specs.Prelude.{Some}
use Rattle.tokeniser.proofs.Behind.{reached_then, reached-place}
use Rattle.lexing.proofs.readers.Places.{place-none, found-none, number_after-read, follow-read}
use Rattle.division_numbers.specs.Numbers.{stated_amounts}
use Rattle.division_numbers.specs.Results.{amounts_from}
use Rattle.division_numbers.proofs.Places.{none-stated}
use Rattle.division_numbers.proofs.read_amounts.Goals as goal

pub returns-in_err-worth : goal.returns-in_err-worth
unfolding stated_amounts
returns-in_err-worth c = c.from_residual.ensures ∙ none-stated _ _ (rw (found-none _ _ _ _ c.in_err-worth.ensures))

pub returns-in_err-share : goal.returns-in_err-share
unfolding stated_amounts
returns-in_err-share c =
    let worth = number_after-read _ _ _ _ c.in_ok-worth.ensures in
    c.from_residual-in_err-share.ensures ∙ none-stated _ _ (rw (worth.read, found-none _ _ _ _ c.in_err-share.ensures))

pub returns-in_err-next : goal.returns-in_err-next
unfolding stated_amounts
returns-in_err-next c =
    let worth = number_after-read _ _ _ _ c.in_ok-worth.ensures in
    let share = number_after-read _ _ _ _ c.in_ok-share.ensures in
    c.from_residual-in_err-next.ensures ∙ none-stated _ _ (rw (worth.read, share.read, place-none _ _ _ c.in_err-next.ensures))

pub returns : goal.returns
unfolding stated_amounts amounts_from
returns c =
    let worth = number_after-read _ _ _ _ c.in_ok-worth.ensures in
    let share = number_after-read _ _ _ _ c.in_ok-share.ensures in
    let end = follow-read _ _ _ c.in_ok-next.ensures in
    rw (worth.read, share.read, end.read)
    (ap (λ place. Some (c.in_ok-worth.worth, c.in_ok-share.share, place)) (reached-place (reached_then worth.reached (reached_then share.reached end.reached))))
