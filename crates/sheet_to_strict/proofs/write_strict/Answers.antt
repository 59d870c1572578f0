use mathlib.Core.Path.{ap, ◌∙◌}
use lib.ListN.{length}
use Rattle.sheet.specs.Answers.{map_answer, after}
use Rattle.writing.specs.Filled.{filled}
use Rattle.sheet_to_strict.proofs.Read.{rewritten}
use Rattle.sheet_to_strict.proofs.write_strict.Goals as goal

pub returns-clause-answer : goal.returns-clause-answer
returns-clause-answer c = c.write_sheet.ensures.answer ∙ ap (map_answer length) (rewritten c.args.text.now (length c.args.buffer.now) _ c.in_ok-contents.ensures)

pub returns-clause-buffer : goal.returns-clause-buffer
returns-clause-buffer c =
    c.write_sheet.ensures.buffer ∙ ap (λ p. after filled p c.args.buffer.now) (rewritten c.args.text.now (length c.args.buffer.now) _ c.in_ok-contents.ensures)
