use mathlib.Core.Path.{◌∙◌}
use Rattle.lexing.proofs.readers.Suffixes.{follow-leaves}
use Rattle.lexing.proofs.readers.Places.{place-none, none-placed, place-then, follow_number-read}
use Rattle.sheet_lines.specs.Grammar.{yard_turn}
use Rattle.sheet_lines.proofs.yards.yard_in_turn.Goals as goal

pub returns-in_err-next : goal.returns-in_err-next
unfolding yard_turn
returns-in_err-next c = c.from_residual.ensures ∙ none-placed _ _ (rw (place-none _ _ _ c.in_err-next.ensures))

pub returns : goal.returns
unfolding yard_turn
returns c =
    let h = follow_number-read _ _ _ _ _ c.in_ok-next.ensures in
    rw h.read (c.follow.ensures ∙ place-then _ h.reached (follow-leaves _ _))
