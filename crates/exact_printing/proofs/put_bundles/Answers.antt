use mathlib.Core.Path.{◌∙◌}
use mathlib.Core.List.{flat_map}
use native.Mathlib.Omega.{arith}
use lib.ListN.{length-take}
use lib.Seq.{get_or-take}
use Rattle.lists.proofs.places.Places.{nth-next}
use Rattle.lists.proofs.members.FlatMap.{flat_map-next}
use Rattle.writing.proofs.Written.{nothing, ◌then◌}
use Rattle.exact_printing.specs.internal.SetsText.{set_group}
use Rattle.exact_printing.proofs.put_bundles.Goals as goal

pub loop-set-init : goal.loop-set-init
unfolding flat_map
loop-set-init c = nothing

pub loop-set-preserved : goal.loop-set-preserved
loop-set-preserved c =
    let l = c.loop-set in
    let bundles = c.args.bundles in
    let own = get_or-take c.args.agents bundles l.set-index 0 (omega (arith, length-take c.args.agents bundles)) in
    let listed = c.as_slice.ensures.same ∙ rw own at c.items_of-bundle.ensures in
    rw (flat_map-next (set_group bundles) l.set-index, nth-next 0 bundles l.set-index)
    (l.invariant then (c.byte.ensures then rw listed at c.group.ensures))
