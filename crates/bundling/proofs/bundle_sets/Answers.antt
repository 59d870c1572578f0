use mathlib.Core.Path.{ap, ◌∙◌}
use mathlib.Core.List.Sublistᴰ.{trans as sublist-trans}
use Prim.Native.Nat.{◌+◌}
use native.Mathlib.Omega.{arith}
use lib.Dec.{eqb}
use Rattle.lists.specs.Lists.{range}
use Rattle.lists.proofs.members.Counting.{filter-sublist}
use Rattle.lists.proofs.places.Filling.{fill-next, fill-all}
use Rattle.sheet.specs.Limits.{most_agents, set_bits}
use Rattle.sheet.specs.Sets.{names, items_of, set_among}
use Rattle.sheet.proofs.sets.SetOf.{set_among-rising}
use Rattle.bundling.specs.Bundles.{bundle_sets}
use Rattle.bundling.proofs.Bundles.{items_in-sublist}
use Rattle.bundling.proofs.bundle_sets.Goals as goal

pub loop-i-preserved : goal.loop-i-preserved
unfolding items_of
loop-i-preserved c =
    let l = c.loop-i in
    let a = c.args in
    let items = filter-sublist (names a.set) (range 1 set_bits) in
    let told =
    c.set_of.ensures
    ∙ ap set_among (c.as_slice.ensures.same ∙ c.bundle_of-bundle.ensures)
    ∙ set_among-rising (sublist-trans (items_in-sublist (eqb (l.i + 1)) (items_of a.set) a.partition) items) in
    fill-next _ most_agents l.sets l.i l.invariant c.set_of.result told (omega arith)

pub returns : goal.returns
unfolding bundle_sets
returns c = let l = c.loop-i in fill-all _ most_agents l.sets l.i l.invariant (omega (arith, l.invariant.within))
