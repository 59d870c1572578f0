-- What the contracts of `dividing` cite: the agents and the items left, and where a round may start. Assumes nothing: these are definitions.
use Rattle.std.specs.Prelude.{List, map, ℕ, ◌+◌, ◌≤◌, ◌<◌, ◌^◌, length}
use Rattle.sheet.specs.Limits.{most_agents, most_items}
use Rattle.sheet.specs.Sets.{items_of}
use Rattle.sheet.specs.Valuations.{item_value}
use Rattle.sheet.specs.Tables.{valuation_of}
use Rattle.sheet.specs.Amounts.{SmallAmounts}
use Rattle.growth.specs.Growth.{growths}
use Rattle.maximin.specs.Share.{maximin_partition}
use Rattle.serving.specs.Serving.{agents_in}
use Rattle.rounds.specs.Round.{Instance}
use Rattle.terms.specs.Allowed.{SmallTerms}
use Rattle.terms.specs.declared.Terms.{Terms}
use Rattle.division.specs.declared.dividing.Allocation.{Allocation}

-- the instance that the code hands from round to round
abbrev pub instance_from : Terms → List (List ℕ) → List ℕ → Instance
instance_from terms table shares = record { terms = terms; valuations = table; shares = shares }

-- the cutter's cut of the items left into as many bundles as there are agents left
abbrev pub cut_left : (table : List (List ℕ)) (cutter : ℕ) (agents items : List ℕ) → List ℕ
cut_left table cutter agents items = maximin_partition (length agents) (map (item_value (valuation_of table cutter)) items)

-- some agents are left, and both sets are those of a sheet
pub record Cuttable (left set : ℕ) : Type 0 where
  pub small_left : left < 2 ^ most_agents
  pub some_left : 1 ≤ length (agents_in left)
  pub small_set : set < 2 ^ most_items

-- the allowance does not stop the cut of the items left into as many bundles as there are agents left
abbrev pub EnoughFor : (allowance left set : ℕ) → Type 0
EnoughFor allowance left set = growths (length (agents_in left)) (length (items_of set)) ≤ allowance

-- where the rounds may start: what they are handed is small enough, no cut is stopped, and there is a place for each round
pub record Ready (terms : Terms) (shares : List ℕ) (allowance left set : ℕ) (a : Allocation) : Type 0 where
  pub small_terms : SmallTerms terms
  pub small_shares : SmallAmounts shares
  pub cuttable : Cuttable left set
  pub enough : EnoughFor allowance left set
  pub places : a.rounds + length (agents_in left) ≤ most_agents
