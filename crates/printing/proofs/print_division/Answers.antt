use mathlib.Core.Path.{sym, ap, ◌∙◌}
use lib.ListN.{length}
use Rattle.std.proofs.lemmas.Result.{err_from_is_err_and}
use Rattle.sheet.specs.Answers.{map_answer, after}
use Rattle.writing.specs.Filled.{filled}
use Rattle.printing.proofs.outcomes.Answers.{refusal-printed, is-divided, division-printed}
use Rattle.printing.proofs.print_division.Goals as goal

pub print_outcome-requires : goal.print_outcome-requires
print_outcome-requires c =
    let is = is-divided c.args.contents c.args.allowance _ c.in_ok-division.ensures.answered in
    (is.limits, is.stored_is)

pub returns-in_err-division-clause-answer : goal.returns-in_err-division-clause-answer
returns-in_err-division-clause-answer c =
    let a = c.args in
    let p = err_from_is_err_and c.from_residual.result c.from_residual.ensures.1 in
    rw (p.1, p.2) (sym (ap (map_answer length) (refusal-printed a.contents a.allowance (length a.buffer.now) _ c.in_err-division.ensures.answered)))

pub returns-in_err-division-clause-buffer : goal.returns-in_err-division-clause-buffer
returns-in_err-division-clause-buffer c =
    let a = c.args in
    sym (ap (λ p. after filled p a.buffer.now) (refusal-printed a.contents a.allowance (length a.buffer.now) _ c.in_err-division.ensures.answered))

pub returns-clause-answer : goal.returns-clause-answer
returns-clause-answer c =
    let a = c.args in
    let is = is-divided a.contents a.allowance _ c.in_ok-division.ensures.answered in
    c.print_outcome.ensures.answer ∙ ap (map_answer length) (division-printed a.contents a.allowance is.by_rounds (length a.buffer.now))

pub returns-clause-buffer : goal.returns-clause-buffer
returns-clause-buffer c =
    let a = c.args in
    let is = is-divided a.contents a.allowance _ c.in_ok-division.ensures.answered in
    c.print_outcome.ensures.buffer ∙ ap (λ p. after filled p a.buffer.now) (division-printed a.contents a.allowance is.by_rounds (length a.buffer.now))
