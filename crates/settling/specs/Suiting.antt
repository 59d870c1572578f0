-- Which sets of items suit which agent (document 01, "Rounds"). Assumes nothing: these are definitions.
use Rattle.std.specs.Prelude.{Bool, List, map, ℕ, ◌*◌, min, leb}
use Rattle.lists.specs.Lists.{range, nth}
use Rattle.sheet.specs.Limits.{most_agents, greatest_sum}
use Rattle.sheet.specs.Sets.{items_of}
use Rattle.sheet.specs.Valuations.{value}
use Rattle.sheet.specs.Tables.{valuation_of}
use Rattle.terms.specs.declared.Terms.{Terms}
use Rattle.margins.specs.Margins.{limited_terms}

-- "A pile suits a yard when bottom × worth is at least top × that yard's maximin share": the items of a set, and an agent with this valuation
-- and share; the terms and the share are cut to their limits
abbrev pub set_suits : (terms : Terms) (valuation : List ℕ) (share set : ℕ) → Bool
set_suits terms valuation share set = leb ((limited_terms terms).top * min share greatest_sum) ((limited_terms terms).bottom * value valuation (items_of set))

-- whether each of the sets suits an agent with this valuation and share
unfoldable pub suits_row : (terms : Terms) (valuation : List ℕ) (share : ℕ) (sets : List ℕ) → List Bool
suits_row terms valuation share sets = map (λ c. set_suits terms valuation share (nth 0 sets c)) (range 1 most_agents)

-- the row of each agent
unfoldable pub suits_table : (terms : Terms) (table : List (List ℕ)) (shares sets : List ℕ) → List (List Bool)
suits_table terms table shares sets = map (λ agent. suits_row terms (valuation_of table agent) (nth 0 shares agent) sets) (range 1 most_agents)
