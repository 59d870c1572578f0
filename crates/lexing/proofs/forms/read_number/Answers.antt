use mathlib.Core.Path.{ap}
use Rattle.std.specs.Prelude.{Some}
use Rattle.tokeniser.proofs.NextToken.{next-token}
use Rattle.tokeniser.proofs.Behind.{reached-next, reached-place}
use Rattle.lexing.specs.Results.{found_from}
use Rattle.lexing.proofs.readers.Numbers.{number-missed, number_read, number-left}
use Rattle.lexing.proofs.forms.read_number.Goals as goal

pub slice_bounds-read_digits-count : goal.slice_bounds-read_digits-count
slice_bounds-read_digits-count c = (next-token c.next_token-t.ensures).ordered

pub slice_bounds-read_digits-start : goal.slice_bounds-read_digits-start
slice_bounds-read_digits-start c = (next-token c.next_token-t.ensures).ordered

pub slice_bounds-read_digits-end : goal.slice_bounds-read_digits-end
slice_bounds-read_digits-end c = (next-token c.next_token-t.ensures).inside

pub returns-in_err-n : goal.returns-in_err-n
unfolding found_from
returns-in_err-n c = rw (c.from_residual.ensures, number-missed _ (next-token c.next_token-t.ensures) c.in_err-n.ensures)

pub returns : goal.returns
unfolding found_from
returns c =
    let read = number_read _ (next-token c.next_token-t.ensures) _ c.in_ok-n.ensures in
    rw read (ap (λ place. Some (c.in_ok-n.n, place)) (reached-place (reached-next c.next_token-t.ensures (number-left _ _ read))))
