use mathlib.Core.Path.{ap, ◌∙◌}
use lib.ListN.{length}
use Rattle.sheet.specs.Answers.{map_answer, after}
use Rattle.writing.specs.Filled.{filled}
use Rattle.sheet_to_division.proofs.ByPrinting.{printed-read}
use Rattle.sheet_to_division.proofs.share_out.Goals as goal

pub returns-clause-answer : goal.returns-clause-answer
returns-clause-answer c =
    let a = c.args in
    c.print_division.ensures.answer ∙ ap (map_answer length) (printed-read a.allowance (length a.buffer.now) a.text.now _ c.in_ok-contents.ensures)

pub returns-clause-buffer : goal.returns-clause-buffer
returns-clause-buffer c =
    let a = c.args in
    c.print_division.ensures.buffer ∙ ap (λ p. after filled p a.buffer.now) (printed-read a.allowance (length a.buffer.now) a.text.now _ c.in_ok-contents.ensures)
