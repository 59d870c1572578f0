-- Which agents wait and which bundles the others are matched with, where `suits agent bundle` says what suits whom.
-- Assumes nothing: these are definitions.
use Rattle.std.specs.Prelude.{◌≡◌, Bool, true, false, ◌&&◌, ℕ, eqb, leb, length}
use mathlib.Core.List.{List, [], ◌∷◌, Memᴰ as Mem}
use Rattle.lists.specs.Lists.{range, filter, count, any, reject, elem, distinct}
use Rattle.lists.specs.Dictionary.{lists_over, first_that, first_best, sublists}

-- "without the cutter"
abbrev pub without : ℕ → List ℕ → List ℕ
without cutter agents = reject (eqb cutter) agents

-- "The other yards, the cutter among them": the agents that do not wait
abbrev pub served_agents : List ℕ → List ℕ → List ℕ
served_agents waiting agents = reject (λ agent. elem agent waiting) agents

module _ (suits : ℕ → ℕ → Bool) where
  -- whether the bundle suits some agent of the list
  abbrev pub wanted : List ℕ → ℕ → Bool
  wanted agents bundle = any (λ agent. suits agent bundle) agents

  -- the number of neighbours of a list of agents: how many of the bundles suit some of them
  abbrev pub neighbours : List ℕ → List ℕ → ℕ
  neighbours agents bundles = count (wanted agents) bundles

  -- "at most as many piles suit some yard of the set as the set has yards"
  abbrev pub tight : List ℕ → List ℕ → Bool
  tight bundles agents = leb (neighbours agents bundles) (length agents)

  -- "The waiting set is the largest set of yards left, without the cutter, for which" it is tight; of several the first
  unfoldable pub waiting_set : List ℕ → List ℕ → List ℕ
  waiting_set others bundles = first_best length (filter (tight bundles) (sublists others))

  -- "the piles that suit no waiting yard"
  abbrev pub free_bundles : List ℕ → List ℕ → List ℕ
  free_bundles waiting bundles = reject (wanted waiting) bundles

  -- whether the lists are of one length and each bundle suits the agent at its place
  abbrev pub suited : List ℕ → List ℕ → Bool
  suited [] [] = true
  suited [] (bundle ∷ chosen) = false
  suited (agent ∷ agents) [] = false
  suited (agent ∷ agents) (bundle ∷ chosen) = suits agent bundle && suited agents chosen

  -- "each gets one pile that suits it, no pile twice"
  abbrev pub matches : List ℕ → List ℕ → Bool
  matches agents chosen = suited agents chosen && distinct chosen

  -- the same as a statement: each agent is given one of the bundles that suits it, and no bundle is given twice
  pub record Matched (agents bundles chosen : List ℕ) : Type 0 where
    pub suits_each : suited agents chosen ≡ true
    pub injective : distinct chosen ≡ true
    pub from_bundles : (bundle : ℕ) → Mem bundle chosen → Mem bundle bundles

  -- the first matching of the agents with bundles, "read as the pile numbers of the served yards in rising yard order"
  unfoldable pub matching : List ℕ → List ℕ → List ℕ
  matching agents bundles = first_that (matches agents) (lists_over bundles (length agents))

-- "The cutter is the lowest-numbered yard left": the first, as the agents left stand in rising order
abbrev pub cutter_of : List ℕ → ℕ
cutter_of [] = 0
cutter_of (agent ∷ agents) = agent

-- "It cuts the pieces left into n piles": as many bundles as there are agents left
abbrev pub bundle_numbers : List ℕ → List ℕ
bundle_numbers agents = range 1 (length agents)

-- one round of the agents left, who stand in rising order, with the one of them who cuts, in its parts
module _ (suits : ℕ → ℕ → Bool) (cutter : ℕ) (agents : List ℕ) where
  -- "The waiting set is the largest set of yards left, without the cutter, .."
  abbrev pub waiting_of : List ℕ
  waiting_of = waiting_set suits (without cutter agents) (bundle_numbers agents)

  -- "The other yards, the cutter among them, are served"
  abbrev pub served_of : List ℕ
  served_of = served_agents waiting_of agents

  -- "from the piles that suit no waiting yard"
  abbrev pub free_of : List ℕ
  free_of = free_bundles suits waiting_of (bundle_numbers agents)

  -- "each gets one pile that suits it, no pile twice": the bundles of the agents served, in their order
  abbrev pub chosen_of : List ℕ
  chosen_of = matching suits served_of free_of
