use mathlib.Core.Path.{sym, ap, ◌∙◌}
use lib.ListN.{length}
use Rattle.sheet.specs.Answers.{map_answer, after}
use Rattle.stated_truth.specs.Lines.{stated_in}
use Rattle.writing.specs.Filled.{filled}
use Rattle.sheet_to_judgement.proofs.Answers.{accepted-few, margins-printed}
use Rattle.sheet_to_judgement.proofs.print_judged.Goals as goal

pub print_margins-requires : goal.print_margins-requires
print_margins-requires c =
    let a = c.args in
    accepted-few a.contents (stated_in a.contents.agents a.stated) _ c.in_ok-margins.ensures

pub returns-clause-answer : goal.returns-clause-answer
returns-clause-answer c =
    let a = c.args in
    let told = margins-printed a.contents (stated_in a.contents.agents a.stated) _ c.in_ok-margins.ensures (length a.buffer.now) in
    c.print_margins.ensures.answer ∙ sym (ap (map_answer length) told)

pub returns-clause-buffer : goal.returns-clause-buffer
returns-clause-buffer c =
    let a = c.args in
    let told = margins-printed a.contents (stated_in a.contents.agents a.stated) _ c.in_ok-margins.ensures (length a.buffer.now) in
    c.print_margins.ensures.buffer ∙ sym (ap (λ p. after filled p a.buffer.now) told)
