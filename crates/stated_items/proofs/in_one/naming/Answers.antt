use mathlib.Core.Path.{◌≡◌, ◌∙◌}
use Prim.Native.Nat.{◌/◌, ◌%◌}
use Rattle.std.proofs.Common.{rules}
use lib.Dec.{eqb}
use Rattle.std.specs.Prelude.{count_by}
use Rattle.lists.proofs.members.Chains.{count_by-count}
use Rattle.stated_items.proofs.in_one.naming.Goals as goal

pub returns : goal.returns
returns c =
    let a = c.args in
    let counted : c.count.result ≡ count_by (λ set. eqb (set / a.bit % 2) 1) a.sets.now = search rules in
    counted ∙ count_by-count (λ set. eqb (set / a.bit % 2) 1) a.sets.now
