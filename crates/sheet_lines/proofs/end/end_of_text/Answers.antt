use mathlib.Core.Path.{◌∙◌}
use Rattle.tokeniser.proofs.Behind.{reached-place}
use Rattle.lexing.proofs.readers.Places.{place-none, none-placed, place-tested, follow-read}
use Rattle.sheet_lines.specs.Grammar.{end_line}
use Rattle.sheet_lines.proofs.Places.{end-anything}
use Rattle.sheet_lines.proofs.end.end_of_text.Goals as goal

pub returns-in_err-next : goal.returns-in_err-next
unfolding end_line
returns-in_err-next c = c.from_residual.ensures ∙ none-placed _ _ (rw (place-none _ _ _ (rw end-anything at c.in_err-next.ensures)))

pub returns : goal.returns
unfolding end_line
returns c =
    let h = follow-read _ _ _ (rw end-anything at c.in_ok-next.ensures) in
    c.then_some.ensures ∙ rw (h.read, c.ended.ensures) (place-tested _ _ _ _ (reached-place h.reached))
