use mathlib.Core.Path.{◌≡◌, ap}
use native.Mathlib.Omega.{arith}
use Rattle.lists.specs.Sums.{least_of}
use Rattle.reach.specs.Loads.{load_of, limited_bundles}
use Rattle.cut.proofs.sharing.Dealt.{heavier-le, dealt-next, dealt-end}
use Rattle.cut.proofs.sharing.deal.Goals as goal

pub overflow_add-loads : goal.overflow_add-loads
overflow_add-loads c =
    let l = c.loop-value in
    let light = c.lightest-light in
    omega (arith, heavier-le c.args.bundles c.args.values.now l.loads l.value-index l.invariant light.result light.ensures c.requires.2 (omega arith), c.requires.0)

pub loop-value-preserved : goal.loop-value-preserved
loop-value-preserved c =
    let l = c.loop-value in
    let light = c.lightest-light in
    dealt-next c.args.bundles c.args.values.now l.loads l.value-index l.invariant light.result light.ensures c.requires.2 (omega arith)

pub returns : goal.returns
returns c =
    let l = c.loop-value in
    let a = c.args in
    let all : limited_bundles a.bundles ≡ a.bundles = omega (arith, c.requires.1, c.requires.2) in
    omega (arith, c.least.ensures, ap (least_of (load_of l.loads)) all, dealt-end a.bundles a.values.now l.loads l.value-index l.invariant (omega arith))
