use mathlib.Core.Path.{◌∙◌}
use Rattle.lexing.specs.Numbers.{number_after}
use Rattle.lexing.proofs.readers.Suffixes.{number-leaves}
use Rattle.lexing.proofs.readers.Places.{place-none, none-found, found-then, follow-read}
use Rattle.lexing.proofs.forms.number_after.Goals as goal

pub returns-in_err-next : goal.returns-in_err-next
unfolding number_after
returns-in_err-next c = c.from_residual.ensures ∙ none-found _ _ _ (rw (place-none _ _ _ c.in_err-next.ensures))

pub returns : goal.returns
unfolding number_after
returns c =
    let h = follow-read _ _ _ c.in_ok-next.ensures in
    rw h.read (c.read_number.ensures ∙ found-then _ _ h.reached (number-leaves _ _))
