use mathlib.Core.Path.{sym, ◌∙◌}
use native.Mathlib.Omega.{arith}
use lib.ListN.{length}
use borrow.Author.Tests.{le-leb}
use Rattle.growth.specs.Growth.{growths}
use Rattle.growth.proofs.Growths.{most_growths, growths-le-most}
use Rattle.cut.proofs.Request.is_enough.Goals as goal

pub returns-then-self-ge-MOST : goal.returns-then-self-ge-MOST
returns-then-self-ge-MOST c =
    let a = c.args.self.now in
    le-leb most_growths a.allowance (omega arith)
    ∙ sym (le-leb (growths a.bundles (length a.values.now)) a.allowance (omega (arith, growths-le-most a.bundles (length a.values.now) a.allowed.some_bundles a.allowed.few_bundles a.allowed.few)))
