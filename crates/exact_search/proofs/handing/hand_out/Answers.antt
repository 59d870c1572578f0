use mathlib.Core.Path.{◌≡◌, subst}
use Prim.Native.Nat.{◌-◌}
use native.Mathlib.Omega.{arith}
use Rattle.exact_search.proofs.bundles.Left.{first-left-leaves}
use Rattle.exact_search.proofs.bundles.Handing.{Handing, handing-none, handing-next, handed_out}
use Rattle.exact_search.proofs.handing.hand_out.Goals as goal

pub loop-i-init : goal.loop-i-init
loop-i-init c = let a = c.args in (c.requires.some, handing-none a.contents.table a.shares a.contents.agents a.all c.requires.some c.requires.serves)

pub loop-i-preserved : goal.loop-i-preserved
loop-i-preserved c =
    let a = c.args in
    let l = c.loop-i in
    let h = l.invariant.1 in
    let leaves = first-left-leaves a.contents.table a.shares a.contents.agents a.all a.levels.now c.requires.small c.requires.ranked (l.i - 1) l.left h.within h.left_part.below c.left_by-part.result h.serves c.left_by-part.ensures in
    (omega arith, handing-next a.contents.table a.shares a.contents.agents a.all c.requires.few c.requires.small l.bundles l.left (l.i - 1) h c.left_by-part.result leaves (omega arith))

pub returns : goal.returns
returns c =
    let a = c.args in
    let l = c.loop-i in
    let end : l.i - 1 ≡ 0 = omega arith in
    handed_out a.contents.table a.shares a.contents.agents a.all c.requires.few c.requires.small l.bundles l.left (subst (Handing a.contents.table a.shares a.contents.agents a.all l.bundles l.left) end l.invariant.1)
