use mathlib.Core.Path.{sym, ap, ◌∙◌}
use borrow.Author.Tests.{not-true, not-false}
use Rattle.lexing.specs.Forms.{ended}
use Rattle.reading.specs.Reading.{sheet_alone, reading}
use Rattle.reading.proofs.Exits.{exit-refused, exit-missing}
use Rattle.reading.proofs.Parts.{refused-before, before-told, refused-end, refused-mark, accepted-table}
use Rattle.reading.proofs.read.Goals as goal

pub returns-in_err-counts : goal.returns-in_err-counts
unfolding reading
returns-in_err-counts c =
    exit-refused c.from_residual.result _ c.from_residual.ensures.1
    ∙ sym (ap sheet_alone (refused-before _ _ ended c.in_err-counts.ensures))

pub returns-in_err-ok_or : goal.returns-in_err-ok_or
unfolding reading
returns-in_err-ok_or c =
    let before = before-told _ _ _ _ c.in_ok-counts.ensures in
    let missed = refused-end _ _ _ _ ended before (sym c.in_err-ok_or.ensures.ok_part ∙ c.end_of_text.ensures) in
    exit-missing c.from_residual-in_err-ok_or.result _ c.from_residual-in_err-ok_or.ensures.1 _ _ c.in_err-ok_or.ensures.value c.in_err-ok_or.ensures.ok_part
    ∙ sym (ap sheet_alone missed)

pub returns-then-not-lines : goal.returns-then-not-lines
unfolding reading
returns-then-not-lines c =
    let before = before-told _ _ _ _ c.in_ok-counts.ensures in
    sym (ap sheet_alone (refused-mark _ _ _ _ ended before _ (sym c.in_ok-ok_or.ensures.ok_part ∙ c.end_of_text.ensures) (not-true c.in_ok-counts.lines.allowed c.if-not-lines.true)))

pub returns : goal.returns
unfolding reading
returns c =
    let before = before-told _ _ _ _ c.in_ok-counts.ensures in
    sym (ap sheet_alone (accepted-table _ _ _ _ ended before _ (sym c.in_ok-ok_or.ensures.ok_part ∙ c.end_of_text.ensures) (not-false c.in_ok-counts.lines.allowed c.if-not-lines.false)))
