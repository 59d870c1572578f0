use mathlib.Core.Path.{sym, ap, ◌∙◌}
use mathlib.Core.List.{[], ◌∷◌, ◌++◌}
use Prim.Native.Nat.{◌+◌}
use native.Mathlib.Omega.{arith}
use lib.ListN.{take}
use Rattle.lists.specs.Lists.{range}
use Rattle.lists.proofs.ranges.Ranges.{length-range}
use Rattle.lists.proofs.places.Passing.{range-next, reject-same}
use Rattle.sheet.specs.Limits.{set_bits}
use Rattle.sheet.proofs.listing.Entries.{kept}
use Rattle.matching.specs.Matching.{wanted}
use Rattle.serving.specs.Serving.{suits_of}
use Rattle.serving.proofs.suiting.free.Goals as goal
use Rattle.serving.proofs.suiting.free.Goals.{else-not-is_wanted, then-not-is_wanted}

pub loop-i-preserved : goal.loop-i-preserved
loop-i-preserved c =
    let l = c.loop-i in
    let b = l.i + 1 in
    let want = wanted (suits_of c.args.suiting) c.args.waiting.now in
    let told = c.is_wanted.ensures in
    rw (range-next l.i)
    (elim c.if-not-is_wanted.branch [
      | then-not-is_wanted w ↦ w.free-is ∙ w.push.ensures ∙ ap (λ r. take set_bits (r ++ (b ∷ []))) l.invariant ∙ kept want (range 1 l.i) b (omega (arith, length-range 1 l.i)) (sym told ∙ w.if-not-is_wanted.true)
      | else-not-is_wanted w ↦ w.free-is ∙ l.invariant ∙ sym (reject-same want (range 1 l.i) b (sym told ∙ w.if-not-is_wanted.false))
    ])
