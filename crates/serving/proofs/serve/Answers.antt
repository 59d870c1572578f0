use mathlib.Core.Path.{◌≡◌, ap, ap₂, ◌∙◌}
use mathlib.Core.Bool.{Bool}
use mathlib.Core.List.{List}
use mathlib.Core.List.{Sublistᴰ as Sublist}
use Prim.Native.Nat.{ℕ}
use native.Mathlib.Omega.{arith}
use lib.ListN.{length}
use Rattle.lists.specs.Lists.{range}
use Rattle.lists.proofs.ranges.RangeSublists.{range-sublist-within, range-sublist-few}
use Rattle.sheet.specs.Limits.{most_agents}
use Rattle.sheet.specs.Sets.{set_of, set_among}
use Rattle.sheet.proofs.sets.SetOf.{set_among-rising}
use Rattle.matching.specs.Matching.{served_agents, free_bundles, matching, waiting_of, served_of, free_of, chosen_of}
use Rattle.serving.specs.Serving.{suits_of, agents_in, serving_of}
use Rattle.serving.proofs.round.AgentsLeft.{agents_in-sublist}
use Rattle.serving.proofs.round.Parts.{waiting-rising, served-rising, free-rising, waiting-named}
use Rattle.serving.proofs.serve.Goals as goal
use Rattle.serving.proofs.serve.Goals.{After-as_slice-waits, Start}

-- the agents left, and what suits whom
abbrev left : Start → List ℕ
left s = agents_in s.args.left

abbrev suits : Start → ℕ → ℕ → Bool
suits s = suits_of s.args.suiting

left_rising : (s : Start) → Sublist (left s) (range 1 most_agents)
left_rising s = agents_in-sublist s.args.left

-- those who wait
waits-are : (c : After-as_slice-waits) → c.as_slice-waits.result.now ≡ waiting_of (suits_of c.args.suiting) c.args.cutter (agents_in c.args.left)
waits-are c = c.as_slice-waits.ensures.same ∙ c.waiting-waiting.ensures ∙ ap (waiting_of (suits_of c.args.suiting) c.args.cutter) c.items_of-agents.ensures

pub waiting-waiting-requires : goal.waiting-waiting-requires
waiting-waiting-requires c = rw c.items_of-agents.ensures (left_rising (goal.at.waiting-waiting-requires c).Start)

pub free-free-requires : goal.free-free-requires
free-free-requires c =
    let s = (goal.at.free-free-requires c).Start in
    let waits = waits-are (goal.at.free-free-requires c).After-as_slice-waits in (
      rw waits (range-sublist-within most_agents (waiting-rising (suits s) c.args.cutter (left_rising s))),
      omega (arith, c.len.ensures.count, ap length c.items_of-agents.ensures, range-sublist-few most_agents (left_rising s)),
    )

pub matched-requires-clause-agents : goal.matched-requires-clause-agents
matched-requires-clause-agents c =
    let s = (goal.at.matched-requires-clause-agents c).Start in
    let waits = waits-are (goal.at.matched-requires-clause-agents c).After-as_slice-waits in
    let served : c.as_slice.result.now ≡ served_of (suits s) c.args.cutter (left s) = c.as_slice.ensures.same ∙ c.served-served.ensures ∙ ap₂ served_agents waits c.items_of-agents.ensures in
    rw served (range-sublist-within most_agents (served-rising (suits s) c.args.cutter (left_rising s)))

pub matched-requires-clause-bundles : goal.matched-requires-clause-bundles
matched-requires-clause-bundles c =
    let s = (goal.at.matched-requires-clause-bundles c).Start in
    let waits = waits-are (goal.at.matched-requires-clause-bundles c).After-as_slice-waits in
    let count = c.len.ensures.count ∙ ap length c.items_of-agents.ensures in
    let free : c.as_slice-2.result.now ≡ free_of (suits s) c.args.cutter (left s) =
    c.as_slice-2.ensures.same ∙ c.free-free.ensures ∙ ap₂ (λ w n. free_bundles (suits s) w (range 1 n)) waits count in
    rw free (range-sublist-within most_agents (free-rising (suits s) c.args.cutter (left_rising s)))

pub returns : goal.returns
unfolding serving_of
returns c =
    let s = (goal.at.returns c).Start in
    let waits = waits-are (goal.at.returns c).After-as_slice-waits in
    let count = c.len.ensures.count ∙ ap length c.items_of-agents.ensures in
    let served : c.served-served.result ≡ served_of (suits s) c.args.cutter (left s) = c.served-served.ensures ∙ ap₂ served_agents waits c.items_of-agents.ensures in
    let free : c.free-free.result ≡ free_of (suits s) c.args.cutter (left s) = c.free-free.ensures ∙ ap₂ (λ w n. free_bundles (suits s) w (range 1 n)) waits count in
    let chosen : c.matched.result ≡ chosen_of (suits s) c.args.cutter (left s) = c.matched.ensures ∙ ap₂ (matching (suits s)) (c.as_slice.ensures.same ∙ served) (c.as_slice-2.ensures.same ∙ free) in
    let named : c.set_of.result ≡ set_of (waiting_of (suits s) c.args.cutter (left s)) = c.set_of.ensures ∙ ap set_among waits ∙ set_among-rising (waiting-named (suits s) c.args.cutter (left_rising s)) in
    rw (served, chosen, named)
