-- The table is refused as its shares are, and else divided; what is promised holds of every answer.
use mathlib.Core.Path.{◌≡◌, sym, ap, ◌∙◌}
use Prim.Native.Nat.{ℕ, min}
use native.Mathlib.Omega.{arith}
use Rattle.std.specs.Prelude.{Ok, Err}
use Rattle.std.proofs.lemmas.Result.{err_from_is_err_and}
use Rattle.sheet.specs.Limits.{most_agents, CountsWithin}
use Rattle.sheet.specs.Answers.{map_answer}
use Rattle.sheet.specs.Refusals.{number, answer_of}
use Rattle.sheet.specs.Contents.{Contents}
use Rattle.sheet.specs.declared.refusal.Refusal.{Refusal}
use Rattle.sheet.proofs.Answering.{refused-of_err}
use Rattle.shares.specs.Shares.{sharing_within}
use Rattle.shares.specs.Stored as shares
use Rattle.shares.specs.declared.Shares.{Shares}
use Rattle.shares.proofs.Answered.{answered-enough, answered-without, answered-known, answered-cuts}
use Rattle.terms.specs.Terms.{terms_for}
use Rattle.terms.specs.declared.Terms.{Terms}
use Rattle.terms.proofs.Allowed.{terms_for-allowed}
use Rattle.rounds.specs.Division.{division_by_terms, answer}
use Rattle.rounds.proofs.Answers.{answer-refused, answer-within-limits}
use Rattle.division.specs.Stored.{stored}
use Rattle.division.specs.declared.Division.{Division as StoredDivision}
use Rattle.division.proofs.Theorems.{promised}
use Rattle.division.proofs.divide.Goals as goal

module _ (sheet : Contents) (allowance : ℕ) where
  -- the table is refused as its shares are
  refusal-answered : (e : Refusal) → answer_of {A = Shares} (Err e) ≡ map_answer shares.stored (sharing_within sheet allowance) → answer_of {A = StoredDivision} (Err e) ≡ map_answer stored (answer sheet allowance)
  refusal-answered e told = ap (map_answer stored) (sym (answer-refused sheet allowance (number e) (refused-of_err shares.stored (sharing_within sheet allowance) e told)))

  module _ (own : Shares) (told : answer_of (Ok own) ≡ map_answer shares.stored (sharing_within sheet allowance)) where
    -- the counts are within the limits
    counts : CountsWithin sheet.agents sheet.items
    counts = (answered-enough sheet own allowance told).0

    -- the terms are those of document 01
    terms-are : (terms : Terms) → terms ≡ terms_for (min sheet.agents most_agents) → terms ≡ terms_for sheet.agents
    terms-are terms e =
        let agents : min sheet.agents most_agents ≡ sheet.agents = omega (arith, counts.few) in
        e ∙ ap terms_for agents

    -- what is divided is what the definition accepts
    division-answered : (terms : Terms) (d : StoredDivision) → terms ≡ terms_for (min sheet.agents most_agents) → d ≡ stored (division_by_terms sheet terms)
        → answer_of (Ok d) ≡ map_answer stored (answer sheet allowance)
    division-answered terms d e divided =
        let (within, enough) = answered-enough sheet own allowance told in
        ap (λ d. answer_of (Ok d)) (divided ∙ ap (λ terms. stored (division_by_terms sheet terms)) (terms-are terms e))
        ∙ ap (map_answer stored) (sym (answer-within-limits sheet allowance within enough))

pub returns-in_err-own-clause-answered : goal.returns-in_err-own-clause-answered
returns-in_err-own-clause-answered c =
    let a = c.args in
    let p = err_from_is_err_and c.from_residual.result c.from_residual.ensures.1 in
    rw (p.1, p.2) (refusal-answered a.contents a.allowance _ c.in_err-own.ensures.answer)

pub returns-in_err-own-clause-promised : goal.returns-in_err-own-clause-promised
returns-in_err-own-clause-promised c =
    let a = c.args in
    let p = err_from_is_err_and c.from_residual.result c.from_residual.ensures.1 in
    rw (p.1, p.2) (promised a.contents a.allowance _ (refusal-answered a.contents a.allowance _ c.in_err-own.ensures.answer))

pub divide_shared-requires : goal.divide_shared-requires
divide_shared-requires c =
    let a = c.args in
    let sheet = a.contents in
    let own = c.in_ok-own.own in
    let told = c.in_ok-own.ensures.answer in
    let (within, enough) = answered-enough sheet own a.allowance told in
    let without = answered-without sheet own a.allowance told in
    record {
      known = answered-known sheet own without c.in_ok-own.ensures.bound;
      own_cuts = answered-cuts sheet own without;
      allowed = rw (terms-are sheet a.allowance own told c.terms_for.result c.terms_for.ensures) (terms_for-allowed a.contents.agents within.few);
      enough = enough;
    }

pub returns-clause-answered : goal.returns-clause-answered
returns-clause-answered c =
    let a = c.args in
    division-answered a.contents a.allowance c.in_ok-own.own c.in_ok-own.ensures.answer c.terms_for.result c.divide_shared.result c.terms_for.ensures c.divide_shared.ensures

pub returns-clause-promised : goal.returns-clause-promised
returns-clause-promised c =
    let a = c.args in
    let sheet = a.contents in
    promised sheet a.allowance _ (division-answered sheet a.allowance c.in_ok-own.own c.in_ok-own.ensures.answer c.terms_for.result c.divide_shared.result c.terms_for.ensures c.divide_shared.ensures)
