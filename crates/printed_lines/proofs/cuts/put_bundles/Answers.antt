use mathlib.Core.Path.{◌≡◌, ap, ◌∙◌}
use mathlib.Core.List.{List, flat_map}
use Rattle.lists.specs.Lists.{range}
use Prim.Native.Nat.{ℕ, ◌+◌}
use native.Mathlib.Omega.{arith}
use Rattle.sheet.specs.Sets.{items_of}
use Rattle.sheet.proofs.sets.AllItems.{items-of-all}
use Rattle.bundling.specs.Bundles.{bundle}
use Rattle.printed_lines.specs.PrintedLines.{cut_pile}
use Rattle.writing.proofs.Written.{nothing, ◌then◌}
use Rattle.lists.proofs.members.FlatMap.{flat_map-next, flat_map-map}
use Rattle.printed_lines.proofs.cuts.put_bundles.Invariants.{bundle_text}
use Rattle.printed_lines.proofs.cuts.put_bundles.Goals as goal
use Rattle.printed_lines.proofs.cuts.put_bundles.Goals.{After-bundle_of-bundle}

module _ (c : After-bundle_of-bundle) where
  -- the items of the bundle that comes next
  abbrev next-bundle : List ℕ
  next-bundle = bundle (range 1 c.args.counts.items) c.args.partition (c.loop-i.i + 1)

  bundle-is : c.bundle_of-bundle.result ≡ next-bundle
  bundle-is =
      let named = ap items_of c.all_items-set.ensures ∙ items-of-all c.args.counts.items c.args.counts.few_items in
      c.bundle_of-bundle.ensures ∙ ap (λ ks. bundle ks c.args.partition (c.loop-i.i + 1)) named

pub loop-i-init : goal.loop-i-init
unfolding flat_map
loop-i-init c = nothing

pub loop-i-preserved : goal.loop-i-preserved
loop-i-preserved c =
    let l = c.loop-i in
    let a = c.args in
    let at-bundle = (goal.at.loop-i-preserved c).After-bundle_of-bundle in
    rw (flat_map-next (bundle_text a.counts.items a.partition) l.i)
    (l.invariant then (c.byte.ensures then rw (c.as_slice.ensures.same ∙ bundle-is at-bundle) at c.group.ensures))

pub returns : goal.returns
returns c =
    let l = c.loop-i in
    let a = c.args in
    let all : l.i ≡ a.counts.agents = omega arith in
    rw (flat_map-map cut_pile (bundle (range 1 a.counts.items) a.partition) (range 1 a.counts.agents)) (rw all at l.invariant)
