-- What the tests of the grade compare, for each agent. Assumes nothing: these are definitions.
use Rattle.std.specs.Prelude.{List, map, ℕ, ◌*◌}
use Rattle.lists.specs.Lists.{range, padded}
use Rattle.lists.specs.Sums.{total, greatest_of}
use Rattle.sheet.specs.Limits.{most_agents}
use Rattle.sheet.specs.Tables.{valuation_of}
use Rattle.grades.specs.Grade.{value_to}
use Rattle.grade_amounts.specs.declared.Compared.{Compared}

module _ (n : ℕ) (valuations bundles : List (List ℕ)) where
  -- the value of agent i's own bundle
  abbrev pub own_value : ℕ → ℕ
  own_value i = value_to valuations bundles i i

  -- the greatest value that agent i sees in any bundle
  abbrev pub greatest_bundle_value : ℕ → ℕ
  greatest_bundle_value i = greatest_of (value_to valuations bundles i) n

  -- n times the value of agent i's own bundle
  abbrev pub multiple_of_own : ℕ → ℕ
  multiple_of_own i = n * own_value i

  -- the value of all items to agent i
  abbrev pub total_value : ℕ → ℕ
  total_value i = total (valuation_of valuations i)

  -- a place for each agent
  unfoldable pub compared : Compared
  compared =
      record {
        own = padded most_agents 0 (map own_value (range 1 n));
        greatest = padded most_agents 0 (map greatest_bundle_value (range 1 n));
        multiples = padded most_agents 0 (map multiple_of_own (range 1 n));
        totals = padded most_agents 0 (map total_value (range 1 n));
      }
