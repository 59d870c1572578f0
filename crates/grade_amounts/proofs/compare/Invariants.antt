-- The loop's invariant: the amounts of the first i agents are in their places.
use mathlib.Core.Path.{◌≡◌}
use mathlib.Core.List.{map}
use Prim.Native.Nat.{min}
use Rattle.lists.specs.Lists.{range, padded}
use Rattle.sheet.specs.Limits.{most_agents, most_items}
use Rattle.sheet.specs.Sets.{items_of}
use Rattle.sheet.specs.Tables.{profile}
use Rattle.sheet.specs.Amounts.{SmallAmounts}
use Rattle.grade_amounts.specs.Compared.{own_value, greatest_bundle_value, multiple_of_own, total_value}
use Rattle.grade_amounts.proofs.compare.Given as goal

abbrev pub invariant-loop-i : goal.invariant-loop-i
invariant-loop-i l = let valuations = profile l.agents (min l.contents.items most_items) l.contents.table in
    (l.own ≡ padded most_agents 0 (map (own_value l.agents valuations (map items_of l.bundles)) (range 1 l.i)))
    × (l.greatest ≡ padded most_agents 0 (map (greatest_bundle_value l.agents valuations (map items_of l.bundles)) (range 1 l.i)))
    × (l.multiples ≡ padded most_agents 0 (map (multiple_of_own l.agents valuations (map items_of l.bundles)) (range 1 l.i)))
    × (l.totals ≡ padded most_agents 0 (map (total_value l.agents valuations (map items_of l.bundles)) (range 1 l.i)))
    × SmallAmounts l.own
