-- What one round of the agents left settles (document 01, "Rounds"), by a table of what suits whom and a set of agents.
-- Assumes nothing: these are definitions.
use Rattle.std.specs.Prelude.{Bool, false, List, [], ℕ, ◌%◌, ◌^◌}
use Rattle.lists.specs.Lists.{nth}
use Rattle.sheet.specs.Limits.{most_agents}
use Rattle.sheet.specs.Sets.{items_of, set_of}
use Rattle.matching.specs.Matching.{waiting_of, served_of, chosen_of}
use Rattle.serving.specs.declared.Serving.{Serving}

-- "A pile suits a yard": by a table with a row for each agent (yard) and a place in it for each bundle (pile)
abbrev pub suits_of : List (List Bool) → ℕ → ℕ → Bool
suits_of suiting agent bundle = nth false (nth [] suiting agent) bundle

-- the "yards left", rising: bit k - 1 stands for agent k, as for piece k in a set of pieces, and bits above the last agent are passed over
abbrev pub agents_in : ℕ → List ℕ
agents_in left = items_of (left % 2 ^ most_agents)

-- "One round has n yards left", one of them the cutter: the yards served, their piles at the same places, the set of those who wait
unfoldable pub serving_of : (ℕ → ℕ → Bool) → ℕ → List ℕ → Serving
serving_of suits cutter agents =
    record {
      served = served_of suits cutter agents;
      chosen = chosen_of suits cutter agents;
      waiting = set_of (waiting_of suits cutter agents);
    }
