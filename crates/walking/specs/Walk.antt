-- What a walk finds, and where it may stand. Assumes nothing: these are definitions.
use Rattle.std.specs.Prelude.{◌≡◌, Bool, cond, ◌&&◌, List, ℕ, ◌+◌, ◌-◌, ◌≤◌, min, leb, length, get_or}
use Rattle.std.proofs.lemmas.List.Edits.{sets}
use Rattle.lists.specs.Lists.{zeros}
use Rattle.lists.specs.Sums.{total}
use Rattle.sheet.specs.Limits.{most_agents, most_items, greatest_sum, within}
use Rattle.growth.specs.Growth.{growth_from}
use Rattle.reach.specs.Loads.{load_of, least_loaded}
use Rattle.walk_steps.specs.Scan.{searched}
use Rattle.walk_steps.specs.Branches.{count_at}
use Rattle.walk_steps.specs.declared.Search.{Search}

-- where a walk may stand: `at` items are laid, the values are still to be laid, and all of them together on one bundle are no greater than
-- the limit
pub record Walkable (values : List ℕ) (bundles at used : ℕ) (loads : List ℕ) : Type 0 where
  pub few : at + length values ≤ most_items
  pub some_bundles : 1 ≤ bundles
  pub few_bundles : bundles ≤ most_agents
  pub opened : used ≤ bundles
  pub places : length loads ≡ most_agents
  pub sums_bounded : (i : ℕ) → get_or loads i 0 + total values ≤ greatest_sum

-- each place for at most so many more items holds the number of growth partitions
abbrev pub Counted : ℕ → ℕ → List (List ℕ) → Type 0
Counted bundles most counts = (left used : ℕ) → left ≤ most → used ≤ bundles → count_at counts left used ≡ length (growth_from bundles used left)

-- the least bundle of a partition on top of the loads, counted up to the ceiling
abbrev pub reached : (ceiling bundles : ℕ) (loads values l : List ℕ) → ℕ
reached ceiling bundles loads values l = min (least_loaded bundles (load_of loads) values l) ceiling

-- the search once the growth partitions of the values are tried in turn, each written after the places already laid
unfoldable pub walked : (values : List ℕ) (bundles at used : ℕ) (loads partition : List ℕ) (ceiling : ℕ) (search : Search) → Search
walked values bundles at used loads partition ceiling search =
    searched (reached ceiling bundles loads values) (sets partition at) search (growth_from bundles used (length values))

-- a search that has found nothing yet
abbrev pub start : ℕ → ℕ → Search
start goal allowance = record { best = record { goal = goal; partition = zeros most_items }; allowance = allowance }

-- the search from empty bundles for a partition whose least bundle, counted up to the ceiling, reaches the goal
abbrev pub walked_from : (values : List ℕ) (bundles ceiling goal allowance : ℕ) → Search
walked_from values bundles ceiling goal allowance = walked values bundles 0 0 (zeros most_agents) (zeros most_items) ceiling (start goal allowance)

-- whether values and a number of bundles lie within the limits of a cut
abbrev pub searchable : List ℕ → ℕ → Bool
searchable values bundles = within most_agents bundles && (leb (length values) most_items && leb (total values) greatest_sum)

-- the search of values within the limits; nothing is found of others
unfoldable pub finding : (values : List ℕ) (bundles ceiling goal allowance : ℕ) → Search
finding values bundles ceiling goal allowance = cond (searchable values bundles) (walked_from values bundles ceiling goal allowance) (start goal allowance)

-- the search of values after one of them in another order: the least bundle that the first finds, one below the goal that it ends with, is
-- the goal and the ceiling of the second
unfoldable pub finding_after : (ordered values : List ℕ) (bundles ceiling goal allowance : ℕ) → Search
finding_after ordered values bundles ceiling goal allowance =
    let least = (finding ordered bundles ceiling goal allowance).best.goal - 1 in finding values bundles least least allowance
