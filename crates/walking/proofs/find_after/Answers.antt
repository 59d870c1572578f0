use mathlib.Core.Path.{sym, ap, subst, ◌∙◌}
use Prim.Native.Nat.{ℕ, ◌-◌, ◌≤◌, min}
use native.Mathlib.Omega.{arith}
use lib.ListN.{length}
use Rattle.sheet.specs.Limits.{most_agents, most_items}
use Rattle.walking.specs.Walk.{Counted, finding, finding_after}
use Rattle.walking.proofs.Limits.{table-counts}
use Rattle.walking.proofs.find_after.Goals as goal
use Rattle.walking.proofs.find_after.Goals.{After-counts_for-counts}

-- the table counts for lists no longer than the longer one
counted : (c : After-counts_for-counts) (items : ℕ) → items ≤ c.max.result
    → let n = c.args.bundles in Counted (min n most_agents) (min items most_items) c.counts_for-counts.result
counted c items fewer =
    let n = c.args.bundles in
    subst (Counted (min n most_agents) (min items most_items)) (sym c.counts_for-counts.ensures) (table-counts n items c.max.result fewer)

pub find_by-first-requires : goal.find_by-first-requires
find_by-first-requires c = counted (goal.at.find_by-first-requires c).After-counts_for-counts (length c.args.ordered.now) (omega (arith, c.max.ensures))

pub find_by-requires : goal.find_by-requires
find_by-requires c =
    counted (goal.at.find_by-requires c).After-counts_for-counts (length c.args.values.now) (omega (arith, c.max.ensures))

pub returns : goal.returns
unfolding finding_after
returns c =
    let a = c.args in
    let least = c.saturating_sub-least.ensures ∙ ap (λ found. found.best.goal - 1) c.find_by-first.ensures in
    c.find_by.ensures ∙ ap (λ least. finding a.values.now a.bundles least least a.allowance) least
