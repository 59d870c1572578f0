use mathlib.Core.Path.{ap, ◌∙◌}
use Rattle.std.specs.Prelude.{Some}
use Rattle.lexing.specs.Results.{found_from}
use Rattle.tokeniser.proofs.Behind.{reached_then, reached-place}
use Rattle.lexing.proofs.readers.Suffixes.{number_after-leaves}
use Rattle.lexing.proofs.readers.Places.{place-none, found-none, none-found, number-to, follow-read, follow_number-read}
use Rattle.division_numbers.specs.Numbers.{division_head}
use Rattle.division_numbers.proofs.read_head.Goals as goal

pub returns-in_err-c1 : goal.returns-in_err-c1
unfolding division_head
returns-in_err-c1 c = c.from_residual.ensures ∙ none-found _ _ _ (rw (place-none _ _ _ c.in_err-c1.ensures))

pub returns-in_err-c2 : goal.returns-in_err-c2
unfolding division_head
returns-in_err-c2 c =
    let agents = follow_number-read _ _ _ _ _ c.in_ok-c1.ensures in
    c.from_residual-in_err-c2.ensures ∙ none-found _ _ _ (rw (agents.read, place-none _ _ _ c.in_err-c2.ensures))

pub returns-in_err-grade : goal.returns-in_err-grade
unfolding division_head
returns-in_err-grade c =
    let agents = follow_number-read _ _ _ _ _ c.in_ok-c1.ensures in
    let items = follow_number-read _ _ _ _ _ c.in_ok-c2.ensures in
    c.from_residual-in_err-grade.ensures ∙ none-found _ _ _ (rw (agents.read, items.read, found-none _ _ _ _ c.in_err-grade.ensures))

pub returns-in_err-next : goal.returns-in_err-next
unfolding division_head
returns-in_err-next c =
    let agents = follow_number-read _ _ _ _ _ c.in_ok-c1.ensures in
    let items = follow_number-read _ _ _ _ _ c.in_ok-c2.ensures in
    let grade = number-to _ _ _ (number_after-leaves _ _ _) c.in_ok-grade.ensures in
    c.from_residual-in_err-next.ensures ∙ none-found _ _ _ (rw (agents.read, items.read, grade.read, place-none _ _ _ c.in_err-next.ensures))

pub returns : goal.returns
unfolding division_head found_from
returns c =
    let agents = follow_number-read _ _ _ _ _ c.in_ok-c1.ensures in
    let items = follow_number-read _ _ _ _ _ c.in_ok-c2.ensures in
    let grade = number-to _ _ _ (number_after-leaves _ _ _) c.in_ok-grade.ensures in
    let end = follow-read _ _ _ c.in_ok-next.ensures in
    rw (agents.read, items.read, grade.read, end.read)
    (ap (λ place. Some (c.in_ok-grade.grade, place)) (reached-place (reached_then agents.reached (reached_then items.reached (reached_then grade.reached end.reached)))))
