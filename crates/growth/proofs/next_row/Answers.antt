use mathlib.Core.Path.{◌≡◌, ap, ◌∙◌}
use Prim.Native.Nat.{◌+◌, ◌-◌}
use native.Mathlib.Omega.{arith}
use lib.ListN.{set}
use Rattle.lists.proofs.places.Padding.{padded-range}
use Rattle.sheet.specs.Limits.{most_agents}
use Rattle.growth.specs.Counts.{used_places}
use Rattle.growth.specs.internal.Rows.{one_more, next_row}
use Rattle.growth.proofs.next_row.Invariants.{filled_to}
use Rattle.growth.proofs.next_row.Goals as goal

pub loop-used-preserved : goal.loop-used-preserved
loop-used-preserved c =
    let l = c.loop-used in
    let row = c.args.row in
    let v = one_more row l.used in
    (omega arith, ap (λ next. set next l.used v) l.invariant.1 ∙ padded-range used_places 0 (λ c. one_more row (c - 1)) l.used v (omega arith) (ap (one_more row) (omega arith)))

pub returns : goal.returns
unfolding next_row
returns c =
    let l = c.loop-used in
    let a = c.args in
    let all : l.used ≡ most_agents + 1 = omega arith in
    l.invariant.1 ∙ ap (filled_to a.row) all
