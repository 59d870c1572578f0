use mathlib.Core.Path.{◌≡◌, ap, ap₂, subst⁻¹, ◌∙◌}
use mathlib.Core.List.{[], Memᴰ as Mem}
use Prim.Native.Nat.{ℕ}
use native.Mathlib.Omega.{arith}
use Rattle.lists.specs.Lists.{range}
use Rattle.lists.proofs.ranges.Ranges.{range-bounds, length-range}
use Rattle.sheet.specs.Limits.{most_agents, most_items}
use Rattle.sheet.specs.Sets.{items_of, set_of}
use Rattle.matching.specs.Matching.{cutter_of}
use Rattle.matching.proofs.Cutter.{cutter_of-mem}
use Rattle.serving.specs.Serving.{agents_in}
use Rattle.division.specs.internal.Left.{instance_from, Ready}
use Rattle.division.specs.internal.Allocation.{empty_allocation, allotted_all}
use Rattle.division.specs.declared.dividing.Allocation.{Allocation}
use Rattle.division.proofs.rounds.Accepted.{up_to-is, all_agents_set, all_items, agents_in-all, ready-all, own-cut, placed_sets, placed_cutters, allotted-accepted, stored-accepted}
use Rattle.division.proofs.divide_shared.Goals as goal
use Rattle.division.proofs.divide_shared.Goals.{After-all_items, After-all_items-all, After-cutter_of-cutter, After-divide_left}

-- the set of all agents, and that of all items
agents_are : (c : After-all_items-all) → c.all_items-all.result ≡ all_agents_set c.requires
agents_are c =
    c.all_items-all.ensures ∙ up_to-is c.args.contents.agents most_agents c.requires.known.counts.few (omega arith)

items_are : (c : After-all_items) → c.all_items.result ≡ all_items c.requires
items_are c =
    c.all_items.ensures ∙ up_to-is c.args.contents.items most_items c.requires.known.counts.few_items (omega arith)

-- the cutter is one of the agents
cutter-mem : (c : After-cutter_of-cutter) → Mem c.cutter_of-cutter.result (range 1 c.args.contents.agents)
cutter-mem c =
    let n = c.args.contents.agents in
    let all = ap agents_in (agents_are c.before) ∙ agents_in-all c.requires in
    subst⁻¹ (λ k. Mem k (range 1 n)) (c.cutter_of-cutter.ensures ∙ ap cutter_of all) (cutter_of-mem (range 1 n) (omega (arith, length-range 1 n, c.requires.known.counts.some)))

-- what the rounds hand out
handed : (c : After-divide_left) → c.all_items-all.result ≡ all_agents_set c.requires → c.all_items.result ≡ all_items c.requires
    → (c.divide_left.result.bundles ≡ placed_sets c.requires)
    × (c.divide_left.result.cutters ≡ placed_cutters c.requires)
handed c agents items =
    let a = c.args in
    let run : ℕ → ℕ → Allocation → Allocation = λ left set. allotted_all (instance_from a.terms a.contents.table a.own.shares) (agents_in left) (items_of set) in
    let out =
    c.divide_left.ensures
    ∙ ap (run c.all_items-all.result c.all_items.result) c.nothing_handed_out.ensures
    ∙ ap₂ (λ left set. run left set empty_allocation) agents items in
    let accepted = allotted-accepted c.requires in
    (ap (λ r. r.bundles) out ∙ accepted.0, ap (λ r. r.cutters) out ∙ accepted.1)

pub overflow_sub-cutter : goal.overflow_sub-cutter
overflow_sub-cutter c = (range-bounds 1 c.args.contents.agents (cutter-mem (goal.at.overflow_sub-cutter c).After-cutter_of-cutter)).0

pub bounds-cuts-cutter : goal.bounds-cuts-cutter
bounds-cuts-cutter c =
    omega (arith, range-bounds 1 c.args.contents.agents (cutter-mem (goal.at.bounds-cuts-cutter c).After-cutter_of-cutter), c.requires.known.counts.few)

pub divide_left-requires : goal.divide_left-requires
divide_left-requires c =
    let a = c.args in
    let at = goal.at.divide_left-requires c in
    let agents = agents_are at.After-all_items-all in
    let items = items_are at.After-all_items in (
      rw (agents, items) (subst⁻¹ (Ready a.terms a.own.shares a.allowance (set_of (range 1 a.contents.agents)) (set_of (range 1 a.contents.items))) c.nothing_handed_out.ensures
          (ready-all c.requires)),
      c.cutter_of-cutter.ensures,
      rw (agents, items) (own-cut c.requires [] c.cutter_of-cutter.result (cutter-mem at.After-cutter_of-cutter)),
    )

pub returns : goal.returns
returns c =
    let at = goal.at.returns c in
    let (sets, cutters) = handed at.After-divide_left (agents_are at.After-all_items-all) (items_are at.After-all_items) in
    stored-accepted c.requires c.assess-grade.ensures sets cutters
