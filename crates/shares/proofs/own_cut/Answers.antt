use mathlib.Core.Path.{◌≡◌, sym, ap, ap₂, ◌∙◌}
use mathlib.Core.List.{List}
use Prim.Native.Nat.{ℕ}
use native.Mathlib.Omega.{arith}
use Rattle.sheet.specs.Limits.{most_items}
use Rattle.sheet.specs.Answers.{accepted, map_answer}
use Rattle.sheet.specs.Refusals.{answer_of}
use Rattle.sheet.specs.Tables.{all_values}
use Rattle.maximin.specs.Share.{maximin_share}
use Rattle.cut.specs.Outcome.{cutting, whole_cut, stored}
use Rattle.shares.specs.declared.OwnCut.{OwnCut}
use Rattle.shares.proofs.Marks.{marks-small, share_small}
use Rattle.shares.proofs.EachAgent.{cutting-all}
use Rattle.shares.proofs.own_cut.Goals as goal
use Rattle.shares.proofs.own_cut.Goals.{After-cut, In-Ok}

-- the cut is neither refused nor stopped
told : (c : After-cut) → let a = c.args in answer_of c.cut.result ≡ accepted (stored (whole_cut a.contents.agents (all_values a.contents.items a.valuation)))
told c =
    let a = c.args in
    c.cut.ensures
    ∙ ap (λ set. map_answer stored (cutting a.valuation set a.contents.agents a.allowance)) c.all_items-all.ensures
    ∙ ap (map_answer stored) (cutting-all a.valuation a.contents.agents a.contents.items a.allowance c.requires.0 c.requires.1)

-- what is found
cutting-told : (c : In-Ok) → let a = c.args in c.in-Ok.cutting ≡ stored (whole_cut a.contents.agents (all_values a.contents.items a.valuation))
cutting-told c =
    let answered = sym (ap answer_of c.in-Ok.is) ∙ told c.before in
    cc

-- what the code makes of both
made : ℕ → List ℕ → OwnCut
made share partition = record { share = share; partition = partition }

pub unreachable-requires : goal.unreachable-requires
unreachable-requires c =
    let answered = sym (ap answer_of c.in_default.is) ∙ told (goal.at.unreachable-requires c).After-cut in
    cc

pub unreachable-requires-in_default-figure : goal.unreachable-requires-in_default-figure
unreachable-requires-in_default-figure c =
    let figure = sym c.in_default-figure.is ∙ ap (λ o. o.figure) (cutting-told (goal.at.unreachable-requires-in_default-figure c).In-Ok) in
    cc

pub returns-clause-own : goal.returns-clause-own
unfolding made
returns-clause-own c =
    let found = cutting-told (goal.at.returns-clause-own c).In-Ok in
    let figure = sym c.in-Share.is ∙ ap (λ o. o.figure) found in
    let share : c.in-Share.share ≡ maximin_share c.args.contents.agents (all_values c.args.contents.items c.args.valuation) = cc in
    ap₂ made share (ap (λ o. o.partition) found)

pub returns-clause-bound : goal.returns-clause-bound
returns-clause-bound c =
    let a = c.args in
    let figure = sym c.in-Share.is ∙ ap (λ o. o.figure) (cutting-told (goal.at.returns-clause-bound c).In-Ok) in
    let share : c.in-Share.share ≡ maximin_share a.contents.agents (all_values a.contents.items a.valuation) = cc in
    omega (
      arith,
      share_small a.contents.agents a.contents.items a.valuation (omega arith) (omega arith) (marks-small most_items a.valuation _ c.well_formed.1.0),
    )
