use mathlib.Core.Path.{ap, ◌∙◌}
use native.Mathlib.Omega.{arith}
use lib.ListN.{take, length-take}
use lib.Seq.{take_all}
use Rattle.sheet.proofs.listing.Entries.{pushed-place}
use Rattle.sheet.proofs.listing.CopyList.of.Goals as goal

pub loop-entry-preserved : goal.loop-entry-preserved
loop-entry-preserved g c =
    let places = take c.min.result c.args.places in
    c.push.ensures ∙ pushed-place c.loop-entry.list places c.loop-entry.entry-index c.entry-item.result (omega (arith, length-take c.min.result c.args.places, c.min.ensures)) c.loop-entry-test.true c.loop-entry.invariant c.entry-item.is

pub returns : goal.returns
returns g c =
    let places = take c.min.result c.args.places in
    c.loop-entry.invariant ∙ take_all c.loop-entry.entry-index places c.loop-entry-test.false ∙ ap (λ n. take n c.args.places) c.min.ensures
