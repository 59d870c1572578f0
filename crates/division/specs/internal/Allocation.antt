-- What the contracts of `dividing` cite: the allocation after some rounds, as the code has it. Assumes nothing: these are definitions.
use Rattle.std.specs.Prelude.{List, [], ◌∷◌, map, ℕ, ◌+◌, ◌-◌, length, get_or, drop, set}
use Rattle.lists.specs.Lists.{zeros}
use Rattle.sheet.specs.Limits.{most_agents}
use Rattle.sheet.specs.Sets.{set_of}
use Rattle.rounds.specs.Round.{Instance, Round, rounds}
use Rattle.division.specs.declared.dividing.Allocation.{Allocation}

-- nothing is handed out
abbrev pub empty_allocation : Allocation
empty_allocation = record { bundles = zeros most_agents; cutters = zeros most_agents; rounds = 0 }

-- the places with the set of each agent served in its place, and 0 where the sets are too few
abbrev pub stored : (served sets places : List ℕ) → List ℕ
stored [] sets places = places
stored (agent ∷ served) sets places = stored served (drop 1 sets) (set places (agent - 1) (get_or sets 0 0))

-- one round more: its cutter, and the sets of the agents served
abbrev pub with_round : (cutter : ℕ) (served sets : List ℕ) (a : Allocation) → Allocation
with_round cutter served sets a =
    record { bundles = stored served sets a.bundles; cutters = set a.cutters a.rounds cutter; rounds = a.rounds + 1 }

-- the allocation once the rounds are played
unfoldable pub allotted : List Round → Allocation → Allocation
allotted [] a = a
allotted (r ∷ rs) a = allotted rs (with_round r.cutter r.served (map set_of r.bundles) a)

-- the allocation once the agents left have divided the items left
abbrev pub allotted_all : Instance → List ℕ → List ℕ → Allocation → Allocation
allotted_all G agents items a = allotted (rounds G (length agents) agents items) a
