use mathlib.Core.Path.{sym, ap, ◌∙◌}
use Prim.Native.Nat.{◌≤◌, ◌<◌}
use native.Mathlib.Omega.{arith}
use lib.ListN.{length}
use borrow.Author.Tests.{leb-true, leb-false}
use Rattle.growth.specs.Growth.{growths}
use Rattle.cut.specs.Outcome.{found, stored}
use Rattle.cut.proofs.Allowance.{found-whole, found-stopped}
use Rattle.cut.proofs.One.{growths-one}
use Rattle.cut.proofs.Request.cut.Goals as goal
use Rattle.cut.proofs.Request.cut.Goals.{Else-is_enough, Then-is_enough}

-- the allowance is enough
enough : (c : Then-is_enough) → let a = c.args.self.now in growths a.bundles (length a.values.now) ≤ a.allowance
enough c =
    let a = c.args.self.now in
    leb-true (growths a.bundles (length a.values.now)) a.allowance (sym c.is_enough.ensures ∙ c.if-is_enough.true)

-- or not
short : (c : Else-is_enough) → let a = c.args.self.now in a.allowance < growths a.bundles (length a.values.now)
short c =
    let a = c.args.self.now in
    leb-false (growths a.bundles (length a.values.now)) a.allowance (sym c.is_enough.ensures ∙ c.if-is_enough.false)

pub returns-then-self-eq1 : goal.returns-then-self-eq1
returns-then-self-eq1 c =
    let values = c.args.self.now.values.now in
    c.cut_in_one.ensures
    ∙ ap stored (sym (found-whole 1 values c.args.self.now.allowance (omega (arith, growths-one (length values), c.args.self.now.allowed.some_allowance))))
    ∙ ap (λ n. stored (found n values c.args.self.now.allowance)) (sym c.if-self-eq1.true)

pub returns-then-is_enough : goal.returns-then-is_enough
returns-then-is_enough c =
    let a = c.args.self.now in
    c.cut_by_share.ensures ∙ ap stored (sym (found-whole a.bundles a.values.now a.allowance (enough (goal.at.returns-then-is_enough c).Then-is_enough)))

pub returns : goal.returns
returns c =
    let a = c.args.self.now in
    c.cut_stopped.ensures ∙ ap stored (sym (found-stopped a.bundles a.values.now a.allowance (short (goal.at.returns c).Else-is_enough)))
