use mathlib.Core.Path.{◌≡◌, sym, ◌∙◌}
use Prim.Native.Nat.{◌+◌, ◌<◌}
use native.Mathlib.Omega.{arith}
use lib.ListN.{length}
use Rattle.sheet.specs.Limits.{set_bits}
use Rattle.sheet.specs.Sets.{items_of}
use Rattle.sheet.proofs.listing.Entries.{pushed}
use Rattle.sheet.proofs.sets.Items.{items_up_to, items_up_to-taken, items_up_to-left, length-items_up_to}
use Rattle.sheet.proofs.naming.items_of.Goals as goal
use Rattle.sheet.proofs.naming.items_of.Goals.{then-set-i-eq1, else-set-i-eq1}

pub loop-i-preserved : goal.loop-i-preserved
loop-i-preserved c =
    let l = c.loop-i in
    let set = c.args.set in
    let room : length (items_up_to set l.i) < set_bits = omega (arith, length-items_up_to set l.i) in
    elim c.if-set-i-eq1.branch [
      | then-set-i-eq1 w ↦ w.items-is ∙ w.push.ensures ∙ rw l.invariant (pushed (items_up_to set l.i) (l.i + 1) room) ∙ sym (items_up_to-taken set l.i w.if-set-i-eq1.true)
      | else-set-i-eq1 w ↦ w.items-is ∙ l.invariant ∙ sym (items_up_to-left set l.i w.if-set-i-eq1.false)
    ]

pub returns : goal.returns
unfolding items_of
returns c =
    let l = c.loop-i in
    let all : l.i ≡ set_bits = omega arith in
    rw all at l.invariant
