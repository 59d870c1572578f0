use mathlib.Core.Path.{◌≡◌, ap, ◌∙◌}
use native.Mathlib.Omega.{arith}
use Rattle.lists.specs.Sums.{least_of}
use Rattle.reach.specs.Loads.{load_of, limited_bundles}
use Rattle.reach.proofs.loads.least.Goals as goal

pub returns : goal.returns
returns c =
    let all : c.loop-i.i ≡ limited_bundles c.args.bundles = omega (arith, c.min-i-end.ensures) in
    c.loop-i.invariant.1 ∙ ap (least_of (load_of c.args.loads.now)) all
