use mathlib.Core.Path.{◌∙◌}
use Rattle.tokeniser.proofs.Behind.{reached-place}
use Rattle.lexing.proofs.readers.Places.{found-none, none-placed, place-tested, number_after-read}
use Rattle.lexing.proofs.forms.follow_number.Goals as goal

pub returns-in_err-k : goal.returns-in_err-k
returns-in_err-k c = c.from_residual.ensures ∙ none-placed _ _ (rw (found-none _ _ _ _ c.in_err-k.ensures))

pub returns : goal.returns
returns c =
    let h = number_after-read _ _ _ _ c.in_ok-k.ensures in
    c.then_some.ensures ∙ rw h.read (place-tested _ _ _ _ (reached-place h.reached))
