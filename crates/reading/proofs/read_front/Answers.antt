use mathlib.Core.Path.{sym, ap, ◌∙◌}
use borrow.Author.Tests.{not-true, not-false}
use Rattle.sheet.specs.Answers.{accepted, map_answer}
use Rattle.sheet_lines.specs.Grammar.{anything}
use Rattle.reading.specs.Reading.{reading_front}
use Rattle.reading.specs.Stored.{stored_front}
use Rattle.sheet.specs.Contents.{sheet_of}
use Rattle.reading.proofs.Exits.{exit-refused, exit-missing}
use Rattle.reading.proofs.Parts.{refused-before, before-told, refused-end, end-place, refused-mark, accepted-table}
use Rattle.reading.proofs.read_front.Goals as goal

pub returns-in_err-counts : goal.returns-in_err-counts
unfolding reading_front
returns-in_err-counts c =
    exit-refused c.from_residual.result _ c.from_residual.ensures.1
    ∙ sym (ap (map_answer (stored_front c.args.text.now)) (refused-before _ _ anything c.in_err-counts.ensures))

pub returns-in_err-next : goal.returns-in_err-next
unfolding reading_front
returns-in_err-next c =
    let before = before-told _ _ _ _ c.in_ok-counts.ensures in
    let missed = refused-end _ _ _ _ anything before (sym c.in_err-next.ensures.ok_part ∙ c.end_line.ensures) in
    exit-missing c.from_residual-in_err-next.result _ c.from_residual-in_err-next.ensures.1 _ _ c.in_err-next.ensures.value c.in_err-next.ensures.ok_part
    ∙ sym (ap (map_answer (stored_front c.args.text.now)) missed)

pub returns-then-not-lines : goal.returns-then-not-lines
unfolding reading_front
returns-then-not-lines c =
    let before = before-told _ _ _ _ c.in_ok-counts.ensures in
    let great = refused-mark _ _ _ _ anything before _ (sym c.in_ok-next.ensures.ok_part ∙ c.end_line.ensures) (not-true c.in_ok-counts.lines.allowed c.if-not-lines.true) in
    sym (ap (map_answer (stored_front c.args.text.now)) great)

pub returns : goal.returns
unfolding reading_front
returns c =
    let before = before-told _ _ _ _ c.in_ok-counts.ensures in
    let ends = sym c.in_ok-next.ensures.ok_part ∙ c.end_line.ensures in
    let sheet = sheet_of c.in_ok-counts.counts.agents c.in_ok-counts.counts.items c.in_ok-counts.lines.table in
    ap (λ place. accepted (sheet, place)) (end-place _ _ _ _ anything before _ ends)
    ∙ sym (ap (map_answer (stored_front c.args.text.now)) (accepted-table _ _ _ _ anything before _ ends (not-false c.in_ok-counts.lines.allowed c.if-not-lines.false)))
