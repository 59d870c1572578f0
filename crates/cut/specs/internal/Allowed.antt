-- What a cut may be asked for. Assumes nothing: these are definitions.
use Rattle.std.specs.Prelude.{List, ℕ, ◌≤◌, length}
use Rattle.lists.specs.Sums.{total}
use Rattle.sheet.specs.Limits.{most_agents, most_items, greatest_sum}

-- values, a number of bundles and an allowance that are not refused
pub record Allowed (values : List ℕ) (bundles allowance : ℕ) : Type 0 where
  pub few : length values ≤ most_items
  pub small : total values ≤ greatest_sum
  pub some_bundles : 1 ≤ bundles
  pub few_bundles : bundles ≤ most_agents
  pub some_allowance : 1 ≤ allowance
