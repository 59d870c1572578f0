-- The limits of a search. Assumes nothing.
use mathlib.Core.Path.{◌≡◌, refl, sym, ap, ◌∙◌}
use mathlib.Core.Bool.{true, and-eq-true_iff}
use mathlib.Core.Logic.{⊎_elim}
use mathlib.Core.List.{List}
use Prim.Native.Nat.{ℕ, ◌+◌, ◌≤◌, ◌<◌, min}
use native.Mathlib.Omega.{arith}
use lib.Dec.{leb}
use lib.ListN.{length}
use lib.Seq.{take_all}
use borrow.Author.Tests.{le-leb, lt-leb, leb-true}
use Rattle.lists.specs.Lists.{zeros}
use Rattle.lists.specs.Sums.{total}
use Rattle.lists.proofs.Cases.{lt-or-ge}
use Rattle.lists.proofs.places.Zeros.{get_d-zeros}
use Rattle.sheet.specs.Limits.{most_agents, most_items, greatest_sum, within}
use Rattle.sheet.proofs.Limits.{within-bounds}
use Rattle.growth.specs.Counts.{count_table}
use Rattle.growth.proofs.Table.{count_table-counts}
use Rattle.reach.specs.Pruning.{supply, counted_supply}
use Rattle.reach.proofs.pruning.Threshold.{supply-all, supply_below}
use Rattle.walking.specs.Walk.{Walkable, Counted, searchable}

-- the sum of the values as it is counted tells whether it is within the limits
pub supplied-within : (values : List ℕ) → length values ≤ most_items → leb (counted_supply (greatest_sum + 1) values) greatest_sum ≡ leb (total values) greatest_sum
supplied-within values few =
    let all : counted_supply (greatest_sum + 1) values ≡ supply (greatest_sum + 1) values = ap (supply (greatest_sum + 1)) (take_all most_items values few) in
    ⊎_elim
    (λ (above : greatest_sum < total values).
    let counted : greatest_sum < counted_supply (greatest_sum + 1) values =
    ⊎_elim (λ low. absurd (omega (arith, supply_below (greatest_sum + 1) values low))) (λ high. omega (arith, all)) (lt-or-ge (supply (greatest_sum + 1) values) (greatest_sum + 1)) in
    lt-leb (counted_supply (greatest_sum + 1) values) greatest_sum counted ∙ sym (lt-leb (total values) greatest_sum above))
    (λ small. ap (λ sum. leb sum greatest_sum) (all ∙ supply-all (greatest_sum + 1) values (omega arith)))
    (lt-or-ge greatest_sum (total values))

-- what the limits of a search are
pub record SearchLimits (values : List ℕ) (bundles : ℕ) : Type 0 where
  pub some_bundles : 1 ≤ bundles
  pub few_bundles : bundles ≤ most_agents
  pub few : length values ≤ most_items
  pub small : total values ≤ greatest_sum

module _ (values : List ℕ) (bundles : ℕ) where
  pub searchable-limits : searchable values bundles ≡ true → SearchLimits values bundles
  searchable-limits e =
      let (inside, limits) = (and-eq-true_iff (within most_agents bundles) _).0 e in
      let (few, small) = (and-eq-true_iff (leb (length values) most_items) (leb (total values) greatest_sum)).0 limits in
      let bounds = within-bounds most_agents bundles inside in
      record {
        some_bundles = bounds.0;
        few_bundles = bounds.1;
        few = leb-true (length values) most_items few;
        small = leb-true (total values) greatest_sum small;
      }

  pub limits-searchable : SearchLimits values bundles → searchable values bundles ≡ true
  limits-searchable w =
      rw (le-leb 1 bundles w.some_bundles, le-leb bundles most_agents w.few_bundles, le-leb (length values) most_items w.few, le-leb (total values) greatest_sum w.small) refl

  -- a walk may start from empty bundles
  pub walkable-start : SearchLimits values bundles → Walkable values bundles 0 0 (zeros most_agents)
  walkable-start w =
      record {
        few = omega (arith, w.few);
        some_bundles = w.some_bundles;
        few_bundles = w.few_bundles;
        opened = omega arith;
        places = refl;
        sums_bounded = λ i. omega (arith, get_d-zeros most_agents i, w.small);
      }

-- a table for so many items counts for fewer, within the limits
pub table-counts : (bundles items most : ℕ) → items ≤ most → Counted (min bundles most_agents) (min items most_items) (count_table (min bundles most_agents) (min most most_items))
table-counts bundles items most fewer left used few in_use =
    count_table-counts (min bundles most_agents) (min most most_items) left used (omega arith) in_use
