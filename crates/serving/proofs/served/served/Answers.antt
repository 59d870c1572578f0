use mathlib.Core.Path.{◌≡◌, sym, ap, ◌∙◌}
use mathlib.Core.Bool.{Bool}
use mathlib.Core.List.{[], ◌∷◌, ◌++◌}
use Prim.Native.Nat.{ℕ, ◌<◌}
use native.Mathlib.Omega.{arith}
use lib.ListN.{length, get_or, take, length-take}
use lib.Seq.{take_all}
use Rattle.lists.specs.Lists.{elem}
use Rattle.lists.proofs.places.Passing.{take_next, reject-same}
use Rattle.sheet.specs.Limits.{set_bits}
use Rattle.sheet.proofs.listing.Entries.{contains-elem, kept}
use Rattle.matching.specs.Matching.{served_agents}
use Rattle.serving.proofs.served.served.Goals as goal
use Rattle.serving.proofs.served.served.Goals.{else-not-contains, then-not-contains}

pub loop-agent-preserved : goal.loop-agent-preserved
loop-agent-preserved c =
    let l = c.loop-agent in
    let agents = c.as_slice-agent-items.result.now in
    let before = take l.agent-index agents in
    let agent = get_or agents l.agent-index 0 in
    let waits : ℕ → Bool = λ agent. elem agent c.args.waiting.now in
    let told : c.contains.result ≡ waits agent = c.contains.ensures.value ∙ contains-elem agent c.args.waiting.now in
    let few : length before < set_bits = omega (arith, length-take l.agent-index agents, c.as_slice-agent-items.ensures.few) in
    rw (take_next agents l.agent-index (omega arith))
    (elim c.if-not-contains.branch [
      | then-not-contains w ↦ w.served-is ∙ w.push.ensures ∙ ap (λ r. take set_bits (r ++ (agent ∷ []))) l.invariant ∙ kept waits before agent few (sym told ∙ w.if-not-contains.true)
      | else-not-contains w ↦ w.served-is ∙ l.invariant ∙ sym (reject-same waits before agent (sym told ∙ w.if-not-contains.false))
    ])

pub returns : goal.returns
returns c =
    let l = c.loop-agent in
    l.invariant ∙ ap (served_agents c.args.waiting.now) (take_all l.agent-index c.as_slice-agent-items.result.now (omega arith) ∙ c.as_slice-agent-items.ensures.same)
