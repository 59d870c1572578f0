use mathlib.Core.Path.{◌≡◌, sym, ap, ◌∙◌}
use mathlib.Core.Bool.{Bool}
use mathlib.Core.List.{map}
use Rattle.sheet.specs.Answers.{accepted, require, map_answer}
use Rattle.sheet.specs.Tables.{profile}
use Rattle.sheet.proofs.Limits.{counts-allowed}
use Rattle.cut.specs.Outcome.{cutting_of}
use Rattle.shares.specs.Shares.{sharing}
use Rattle.shares.specs.Stored.{stored}
use Rattle.shares.proofs.Refusals.{sharing-counts-within}
use Rattle.shares.proofs.EachAgent.{stored-each}
use Rattle.shares.proofs.checked_cuts.Goals as goal
use Rattle.shares.proofs.checked_cuts.Goals.{After-shares_covered}

-- the answer by the test of refusal 9
tested : (c : After-shares_covered) (b : Bool) → c.shares_covered.result ≡ b
    → let a = c.args in
    sharing a.contents ≡ require 9 b (accepted (map (cutting_of a.contents.agents) (profile a.contents.agents a.contents.items a.contents.table)))
tested c b e =
    let a = c.args in
    let allowed = counts-allowed a.contents.agents a.contents.items c.requires.0 in
    sharing-counts-within a.contents allowed.0 allowed.1
    ∙ ap (λ t. require 9 t (accepted (map (cutting_of a.contents.agents) (profile a.contents.agents a.contents.items a.contents.table)))) (sym c.shares_covered.ensures ∙ e)

pub shares_covered-requires : goal.shares_covered-requires
shares_covered-requires c =
    let a = c.args in
    let own = c.own_cuts-own.ensures in
    record {
      counts = c.requires.0;
      each = ap (λ o. o.shares) (own.each ∙ stored-each a.contents.agents a.contents.items a.contents.table);
      small = own.bound;
    }

pub returns-then-not-shares_covered-clause-answer : goal.returns-then-not-shares_covered-clause-answer
returns-then-not-shares_covered-clause-answer c =
    ap (map_answer stored) (sym (tested (goal.at.returns-then-not-shares_covered-clause-answer c).After-shares_covered _ c.if-not-shares_covered.true))

pub returns-clause-answer : goal.returns-clause-answer
returns-clause-answer c =
    ap accepted c.own_cuts-own.ensures.each ∙ ap (map_answer stored) (sym (tested (goal.at.returns-clause-answer c).After-shares_covered _ c.if-not-shares_covered.false))
