use mathlib.Core.Path.{◌≡◌, sym, ap, ap₂, ◌∙◌}
use mathlib.Core.List.{[], map}
use Prim.Native.Nat.{◌-◌, ◌≤◌}
use native.Mathlib.Omega.{arith}
use lib.ListN.{length, get_or, length-map}
use Rattle.lists.proofs.ranges.Ranges.{range-bounds}
use Rattle.lists.proofs.members.Counting.{sublist-mem}
use Rattle.lists.proofs.ranges.RangeSublists.{range-sublist-few}
use Rattle.sheet.specs.Limits.{most_agents}
use Rattle.sheet.specs.Answers.{accepted, map_answer}
use Rattle.sheet.specs.Refusals.{answer_of}
use Rattle.sheet.specs.Sets.{items_of}
use Rattle.sheet.specs.Valuations.{item_value, values_of}
use Rattle.growth.specs.Growth.{growths}
use Rattle.maximin.specs.Share.{maximin_partition}
use Rattle.cut.specs.Outcome.{stored as cut_stored, whole_cut, placed}
use Rattle.cut.specs.declared.Cutting.{Cutting}
use Rattle.cut.proofs.Allowance.{cutting-shared}
use Rattle.serving.specs.Serving.{agents_in}
use Rattle.serving.proofs.round.AgentsLeft.{agents_in-sublist, agents_in-items}
use Rattle.division.proofs.dividing.Instance.cut_left.Goals as goal
use Rattle.division.proofs.dividing.Instance.cut_left.Goals.{After-cut, Start}

-- the cutter is an agent of a sheet
cutter-within : (s : Start) → (1 ≤ s.args.cutter) × (s.args.cutter ≤ most_agents)
cutter-within s =
    let (low, high) = range-bounds 1 most_agents (sublist-mem (agents_in-sublist s.args.left) s.requires.0) in
    (low, omega arith)

pub overflow_sub-row : goal.overflow_sub-row
overflow_sub-row c = (cutter-within (goal.at.overflow_sub-row c).Start).0

pub bounds-self-cutter : goal.bounds-self-cutter
bounds-self-cutter c = omega (arith, cutter-within (goal.at.bounds-self-cutter c).Start)

-- the cut is neither refused nor stopped
told : (c : After-cut)
    → let a = c.args in
    let row = get_or a.self.now.contents.table (a.cutter - 1) [] in
    (answer_of c.cut.result ≡ accepted (cut_stored (whole_cut c.len.result (values_of row a.set)))) × (c.len.result ≡ length (agents_in a.left))
unfolding values_of
told c =
    let a = c.args in
    let same = agents_in-items a.left c.requires.1.small_left in
    let n = c.len.result in
    let count : n ≡ length (agents_in a.left) = c.len.ensures.count ∙ ap length (c.items_of-agents.ensures ∙ sym same) in
    let row = get_or a.self.now.contents.table (a.cutter - 1) [] in
    let enough : growths n (length (values_of row a.set)) ≤ a.self.now.allowance = omega (arith, ap₂ growths count (length-map (items_of a.set) (item_value row)), c.requires.2) in (
      c.cut.ensures ∙ ap (map_answer cut_stored) (cutting-shared row a.set n a.self.now.allowance (omega (arith, c.requires.1.some_left)) (omega (arith, range-sublist-few most_agents (agents_in-sublist a.left))) c.requires.1.small_set enough),
      count,
    )

pub unreachable-requires : goal.unreachable-requires
unreachable-requires c =
    let answered = sym (ap answer_of c.in_default.is) ∙ (told (goal.at.unreachable-requires c).After-cut).0 in
    cc

pub returns : goal.returns
unfolding values_of
returns c =
    let a = c.args in
    let row = get_or a.self.now.contents.table (a.cutter - 1) [] in
    let (whole, count) = told (goal.at.returns c).After-cut in
    let answered = sym (ap answer_of c.in-Ok.is) ∙ whole in
    let found : c.in-Ok.cutting ≡ cut_stored (whole_cut c.len.result (values_of row a.set)) = cc in
    ap (λ (d : Cutting). d.partition) found
    ∙ ap (λ k. placed (maximin_partition k (map (item_value row) (items_of a.set)))) count
