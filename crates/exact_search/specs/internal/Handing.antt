-- The bundles of the agents, from the last to the first. Assumes nothing: these are definitions.
use Rattle.std.specs.Prelude.{◌≡◌, Bool, true, false, ◌&&◌, ◌⊎◌, List, [], map, ℕ, ◌-◌, ◌^◌, ◌≤◌, ◌<◌, leb, length, get_or}
use Rattle.lists.specs.Sums.{total, sum_over}
use Rattle.sheet.specs.Limits.{most_agents, most_items}
use Rattle.sheet.specs.Sets.{items_of}
use Rattle.sheet.specs.Valuations.{value}
use Rattle.exact_levels.specs.Parts.{IsPart, is_part}
use Rattle.exact_levels.specs.ServedSets.{Serves, Ranked}

-- whether an agent may leave a part of a set to those before it: they can be served from it, and the rest is worth its share
unfoldable pub may_leave : (valuation : List ℕ) (share level before part set : ℕ) → Bool
may_leave valuation share level before part set = leb before level && (is_part part set && leb share (value valuation (items_of (set - part))))

-- the first part of a set, as numbers, that the agent may leave, or the set where no lesser part may be left
pub record FirstLeft (valuation : List ℕ) (share : ℕ) (levels : List ℕ) (before set part : ℕ) : Type 0 where
  pub below : part ≤ set
  pub none_before : (other : ℕ) → other < part → may_leave valuation share (get_or levels other 0) before other set ≡ false
  pub whole_or_left : (part ≡ set) ⊎ (may_leave valuation share (get_or levels part 0) before part set ≡ true)

module _ (table : List (List ℕ)) (shares : List ℕ) (agents : ℕ) where
  -- the agents can be served from the items of `all`, and the levels tell from which of their parts
  pub record CanHand (levels : List ℕ) (all : ℕ) : Type 0 where
    pub some : 1 ≤ agents
    pub few : agents ≤ most_agents
    pub small : all < 2 ^ most_items
    pub ranked : Ranked table shares agents all levels
    pub serves : Serves table shares agents all

  -- the sets share out the items of `all`, and each agent has its share
  pub record HandedOut (all : ℕ) (bundles : List ℕ) : Type 0 where
    pub places : length bundles ≡ most_agents
    pub zero_beyond : (j : ℕ) → agents ≤ j → get_or bundles j 0 ≡ 0
    pub all_items_summed : (w : ℕ → ℕ) → total (map (λ b. sum_over w (items_of b)) bundles) ≡ sum_over w (items_of all)
    pub parts : (j : ℕ) → j < agents → IsPart (get_or bundles j 0) all
    pub reached : (j : ℕ) → j < agents → get_or shares j 0 ≤ value (get_or table j []) (items_of (get_or bundles j 0))
