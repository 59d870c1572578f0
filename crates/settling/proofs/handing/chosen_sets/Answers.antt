use mathlib.Core.Path.{◌≡◌, sym, ap, ◌∙◌}
use mathlib.Core.List.{List, [], ◌∷◌, map, map-append}
use Prim.Native.Nat.{ℕ, ◌+◌, ◌≤◌, ◌<◌}
use native.Mathlib.Omega.{arith}
use lib.ListN.{length, get_or, take, set, length-map, length-take}
use lib.Seq.{take_all}
use Rattle.lists.specs.Lists.{nth, padded}
use Rattle.sheet.specs.Limits.{most_agents}
use Rattle.lists.proofs.places.Padding.{padded-next}
use Rattle.lists.proofs.places.Passing.{take_next, within-at}
use Rattle.settling.proofs.handing.chosen_sets.Invariants.{stored_up_to}
use Rattle.settling.proofs.handing.chosen_sets.Goals as goal

stored_next : (sets chosen : List ℕ) (i : ℕ) → i < length chosen → length chosen ≤ most_agents
    → set (stored_up_to sets chosen i) i (nth 0 sets (get_or chosen i 0)) ≡ stored_up_to sets chosen (i + 1)
stored_next sets chosen i more few =
    let passed = map (nth 0 sets) (take i chosen) in
    let next = nth 0 sets (get_or chosen i 0) in
    let count : length passed ≡ i = length-map (take i chosen) (nth 0 sets) ∙ length-take i chosen ∙ omega arith in
    ap (λ k. set (padded most_agents 0 passed) k next) (sym count)
    ∙ padded-next most_agents 0 passed next (omega (arith, count))
    ∙ ap (padded most_agents 0) (sym (ap (map (nth 0 sets)) (take_next chosen i more) ∙ map-append (nth 0 sets) (take i chosen) (get_or chosen i 0 ∷ [])))

pub overflow_sub-handed : goal.overflow_sub-handed
overflow_sub-handed c = let a = c.args in omega (arith, within-at most_agents a.chosen.now c.requires.0 c.loop-i.i (omega arith))

pub bounds-sets-bundle : goal.bounds-sets-bundle
bounds-sets-bundle c = let a = c.args in omega (arith, within-at most_agents a.chosen.now c.requires.0 c.loop-i.i (omega arith))

pub loop-i-preserved : goal.loop-i-preserved
loop-i-preserved c =
    let l = c.loop-i in
    let a = c.args in
    rw l.invariant (stored_next a.sets a.chosen.now l.i (omega arith) (omega arith))

pub returns : goal.returns
returns c =
    let l = c.loop-i in
    l.invariant ∙ ap (λ chosen. padded most_agents 0 (map (nth 0 c.args.sets) chosen)) (take_all l.i c.args.chosen.now (omega arith))
