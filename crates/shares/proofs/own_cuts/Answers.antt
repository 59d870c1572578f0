use mathlib.Core.Path.{◌≡◌, sym, ap, ap₂, ◌∙◌}
use mathlib.Core.List.{List, []}
use Prim.Native.Nat.{ℕ, ◌+◌}
use native.Mathlib.Omega.{arith}
use lib.ListN.{set as store}
use Rattle.lists.proofs.places.Padding.{padded-range}
use Rattle.lists.proofs.places.Places.{nth-next, store-small}
use Rattle.sheet.specs.Limits.{most_agents, greatest_sum}
use Rattle.sheet.specs.Tables.{valuation_of, all_values}
use Rattle.shares.specs.Shares.{share_of}
use Rattle.shares.specs.Stored.{blank_cut}
use Rattle.shares.specs.internal.OwnCuts.{own_cut}
use Rattle.shares.specs.declared.Shares.{Shares}
use Rattle.shares.proofs.EachAgent.{cut_at, stored-range}
use Rattle.shares.proofs.own_cuts.Goals as goal
use Rattle.shares.proofs.own_cuts.Goals.{After-own_cut-share}

-- the share and the cut of agent i + 1
own_read : (c : After-own_cut-share)
    → let a = c.args in
    c.own_cut-share.result ≡ own_cut a.contents.agents (all_values a.contents.items (valuation_of a.contents.table (c.loop-i.i + 1)))
own_read c =
    let a = c.args in
    let i = c.loop-i.i in
    c.own_cut-share.ensures.own ∙ ap (λ row. own_cut a.contents.agents (all_values a.contents.items row)) (sym (nth-next [] a.contents.table i))

pub loop-i-preserved : goal.loop-i-preserved
loop-i-preserved c =
    let a = c.args in
    let l = c.loop-i in
    let own = c.own_cut-share in
    let read = own_read (goal.at.loop-i-preserved c).After-own_cut-share in (
      ap (λ shares. store shares l.i own.result.share) l.invariant.0
          ∙ padded-range most_agents 0 (share_of a.contents) l.i own.result.share (omega arith) (ap (λ o. o.share) read),
      ap (λ cuts. store cuts l.i own.result.partition) l.invariant.1
          ∙ padded-range most_agents blank_cut (cut_at a.contents.agents a.contents.items a.contents.table) l.i own.result.partition (omega arith) (ap (λ o. o.partition) read),
      store-small greatest_sum l.shares l.i own.result.share own.ensures.bound l.invariant.2,
    )

pub returns-clause-each : goal.returns-clause-each
returns-clause-each c =
    let a = c.args in
    let l = c.loop-i in
    let e : l.i ≡ a.contents.agents = omega arith in
    ap₂ made (rw e at l.invariant.0) (rw e at l.invariant.1) ∙ sym (stored-range a.contents.agents a.contents.items a.contents.table)
  where
    made : List ℕ → List (List ℕ) → Shares
    made shares cuts = record { shares = shares; cuts = cuts }
