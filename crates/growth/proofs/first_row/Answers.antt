use mathlib.Core.Path.{◌≡◌, refl, ap, ◌∙◌}
use Prim.Native.Nat.{◌+◌, ◌-◌}
use native.Mathlib.Omega.{arith}
use lib.ListN.{set}
use Rattle.lists.proofs.places.Padding.{padded-range}
use Rattle.growth.specs.Counts.{growth_count, used_places, count_row}
use Rattle.growth.proofs.first_row.Invariants.{filled_to}
use Rattle.growth.proofs.first_row.Goals as goal

pub loop-used-preserved : goal.loop-used-preserved
loop-used-preserved c =
    let l = c.loop-used in
    let n = c.args.bundles in
    ap (λ row. set row l.used 1) l.invariant ∙ padded-range used_places 0 (λ c. growth_count n (c - 1) 0) l.used 1 (omega arith) refl

pub returns : goal.returns
unfolding count_row
returns c =
    let l = c.loop-used in
    let n = c.args.bundles in
    let all : l.used ≡ n + 1 = omega arith in
    l.invariant ∙ ap (filled_to n) all
