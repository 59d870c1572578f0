use mathlib.Core.Path.{◌≡◌, sym, ap, ◌∙◌}
use Prim.Native.Nat.{min}
use native.Mathlib.Omega.{arith}
use Rattle.std.proofs.lemmas.Result.{err_from_is_err_and}
use Rattle.sheet.specs.Limits.{most_agents}
use Rattle.std.specs.Prelude.{Some, None}
use Rattle.sheet.specs.declared.refusal.Refusal.TheVariants.{DivisionMalformed}
use Rattle.sheet.specs.Refusals.{number}
use Rattle.sheet.specs.Answers.{map_answer}
use Rattle.sheet.proofs.Answering.{refused-of_err}
use Rattle.shares.specs.Shares.{sharing}
use Rattle.shares.specs.Stored.{stored as shares_stored}
use Rattle.shares.proofs.Answered.{answered-counts, answered-known}
use Rattle.terms.specs.Terms.{terms_for}
use Rattle.terms.proofs.Allowed.{terms_for-small}
use Rattle.judging.specs.Stored.{stored}
use Rattle.stated_truth.specs.Lines.{stated_in}
use Rattle.stated_truth.specs.Judging.{judging_by}
use Rattle.stated_truth.proofs.Verdicts.{judging-refused, judging-within}
use Rattle.judging.proofs.judge.Goals as goal
use Rattle.judging.proofs.judge.Goals.{After-terms_for-terms}

-- the terms are those of document 01
terms-told : (c : After-terms_for-terms) → c.terms_for-terms.result ≡ terms_for c.args.contents.agents
terms-told c =
    let n = c.args.contents.agents in
    let counts = answered-counts c.args.contents c.in_ok-own.own c.in_ok-own.ensures.answer in
    let kept : min n most_agents ≡ n = omega (arith, counts.few) in
    c.terms_for-terms.ensures ∙ ap terms_for kept

pub judge_shared-requires : goal.judge_shared-requires
judge_shared-requires c =
    let sheet = c.args.contents in
    let own = c.in_ok-own in (
      answered-known sheet own.own own.ensures.answer own.ensures.bound,
      rw (terms-told (goal.at.judge_shared-requires c).After-terms_for-terms) (terms_for-small c.args.contents.agents (answered-counts sheet own.own own.ensures.answer).few),
    )

pub returns-in_err-own : goal.returns-in_err-own
returns-in_err-own c =
    let sheet = c.args.contents in
    let p = err_from_is_err_and c.from_residual.result c.from_residual.ensures.1 in
    let refused-so = refused-of_err shares_stored (sharing sheet) c.in_err-own.field-0.0 c.in_err-own.ensures.answer in
    rw (p.1, p.2) (sym (ap (map_answer stored) (judging-refused sheet (terms_for c.args.contents.agents) (stated_in c.args.contents.agents c.args.division) (number c.in_err-own.field-0.0) refused-so)))

pub returns-in_err-division : goal.returns-in_err-division
returns-in_err-division c =
    let sheet = c.args.contents in
    let counts = answered-counts sheet c.in_ok-own.own c.in_ok-own.ensures.answer in
    let p = err_from_is_err_and c.from_residual-in_err-division.result c.from_residual-in_err-division.ensures.1 in
    let none : c.args.division ≡ None = grind arith in
    let reason : c.in_err-division.field-0.0 ≡ DivisionMalformed = grind arith in
    rw (p.1, p.2, reason, none) (sym (ap (map_answer stored) (judging-within sheet (terms_for c.args.contents.agents) None counts)))

pub returns : goal.returns
returns c =
    let sheet = c.args.contents in
    let some : c.args.division ≡ Some c.in_ok-division.division = grind arith in
    let told = terms-told (goal.at.returns c).After-terms_for-terms in
    c.judge_shared.ensures
    ∙ ap (λ terms. map_answer stored (judging_by sheet terms (stated_in c.args.contents.agents (Some c.in_ok-division.division)))) told
    ∙ ap (λ d. map_answer stored (judging_by sheet (terms_for c.args.contents.agents) (stated_in c.args.contents.agents d))) (sym some)
