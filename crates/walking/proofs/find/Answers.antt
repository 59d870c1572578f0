use mathlib.Core.Path.{sym, subst}
use Prim.Native.Nat.{min}
use native.Mathlib.Omega.{arith}
use lib.ListN.{length}
use Rattle.sheet.specs.Limits.{most_agents, most_items}
use Rattle.walking.specs.Walk.{Counted}
use Rattle.walking.proofs.Limits.{table-counts}
use Rattle.walking.proofs.find.Goals as goal

pub find_by-requires : goal.find_by-requires
find_by-requires c =
    let a = c.args in
    let k = length a.values.now in
    subst (Counted (min a.bundles most_agents) (min k most_items)) (sym c.counts_for-counts.ensures) (table-counts a.bundles k k (omega arith))
