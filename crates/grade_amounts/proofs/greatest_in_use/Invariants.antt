-- The loop's invariant: the greatest value of the first bundles is found.
use mathlib.Core.Path.{◌≡◌}
use mathlib.Core.List.{List, [], map}
use Prim.Native.Nat.{ℕ, min}
use Rattle.lists.specs.Lists.{nth}
use Rattle.lists.specs.Sums.{greatest_of}
use Rattle.sheet.specs.Limits.{most_items}
use Rattle.sheet.specs.Sets.{items_of}
use Rattle.sheet.specs.Valuations.{value}
use Rattle.sheet.specs.Tables.{all_values}
use Rattle.grade_amounts.proofs.greatest_in_use.Given as goal

-- the value of bundle j
abbrev seen : List ℕ → ℕ → List ℕ → ℕ → ℕ
seen valuation items bundles j = value (all_values (min items most_items) valuation) (nth [] (map items_of bundles) j)

abbrev pub invariant-loop-bundle : goal.invariant-loop-bundle
invariant-loop-bundle l = l.most ≡ greatest_of (seen l.valuation l.items l.fn.bundles) l.bundle-index
