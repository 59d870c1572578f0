use mathlib.Core.Path.{◌≡◌, sym, ap, ◌∙◌}
use lib.ListN.{length}
use Rattle.sheet.specs.Answers.{map_answer, after}
use Rattle.tokeniser.specs.Places.{tokens_at}
use Rattle.reading.proofs.FrontPlace.{front-read}
use Rattle.writing.specs.Filled.{filled}
use Rattle.division_reading.specs.Grammar.{division_text}
use Rattle.stated_truth.specs.Lines.{stated_in}
use Rattle.sheet_to_judgement.specs.TextJudged.{judgement_from}
use Rattle.sheet_to_judgement.specs.internal.Printing.{printing_judgement}
use Rattle.sheet_to_judgement.proofs.FrontJudged.{accepted-judged}
use Rattle.sheet_to_judgement.proofs.StatedBack.{stated-kept}
use Rattle.sheet_to_judgement.proofs.Front.{reading_front-counts}
use Rattle.sheet_to_judgement.proofs.judge_division.Goals as goal
use Rattle.sheet_to_judgement.proofs.judge_division.Goals.{After-print_judged}

-- what is printed is the judgement from the text
same : (c : After-print_judged) → let sheet = c.in_ok-contents.contents in
    printing_judgement sheet (stated_in sheet.agents c.read_division-stated.result) (length c.args.buffer.now) ≡ judgement_from c.args.text.now (length c.args.buffer.now)
same c =
    let text = c.args.text.now in
    let room = length c.args.buffer.now in
    let sheet = c.in_ok-contents.contents in
    let behind = tokens_at text c.in_ok-contents.behind in
    let read = front-read text sheet c.in_ok-contents.behind c.in_ok-contents.ensures in
    let few = reading_front-counts text sheet behind read in
    let stated : stated_in sheet.agents c.read_division-stated.result ≡ division_text sheet.agents sheet.items behind =
    ap (stated_in sheet.agents) c.read_division-stated.ensures ∙ stated-kept sheet.agents sheet.items few.few_items few.few behind in
    ap (λ d. printing_judgement sheet d room) stated ∙ sym (accepted-judged text room sheet behind read)

pub returns-clause-answer : goal.returns-clause-answer
returns-clause-answer c = c.print_judged.ensures.answer ∙ ap (map_answer length) (same (goal.at.returns-clause-answer c).After-print_judged)

pub returns-clause-buffer : goal.returns-clause-buffer
returns-clause-buffer c =
    c.print_judged.ensures.buffer ∙ ap (λ p. after filled p c.args.buffer.now) (same (goal.at.returns-clause-buffer c).After-print_judged)
