use mathlib.Core.List.{flat_map}
use native.Mathlib.Omega.{arith}
use lib.IntN.{pos}
use lib.ListN.{get_or, length-take}
use lib.Seq.{get_or-take}
use mir.Syntax.{w64}
use mir.ValLaws.{to_z-of_z}
use Rattle.lists.proofs.places.Places.{nth-next}
use Rattle.lists.proofs.members.FlatMap.{flat_map-next}
use Rattle.writing.proofs.Written.{nothing, ◌then◌}
use Rattle.sheet_to_judgement.specs.internal.MarginsText.{spaced_margin}
use Rattle.sheet.specs.Limits.{most_agents}
use Rattle.sheet_to_judgement.proofs.Fit.{margins-fit}
use Rattle.sheet_to_judgement.proofs.accepted.put_margins.Goals as goal

pub loop-margin-init : goal.loop-margin-init
unfolding flat_map
loop-margin-init c = nothing

pub loop-margin-preserved : goal.loop-margin-preserved
loop-margin-preserved c =
    let l = c.loop-margin in
    let margins = c.args.margins in
    let own = get_or-take c.args.agents margins l.margin-index (pos 0) (omega (arith, length-take c.args.agents margins)) in
    let fits = margins-fit most_agents margins _ c.well_formed.1.1.0 l.margin-index in
    let stands = to_z-of_z w64 (get_or margins l.margin-index (pos 0)) (record { sfits = fits }) in
    rw (flat_map-next (spaced_margin margins) l.margin-index, nth-next (pos 0) margins l.margin-index)
    (l.invariant then (c.byte.ensures then rw (own, stands) at c.signed.ensures))
