-- What a division puts into the places that a caller by C's calling convention lends. Assumes nothing: these are definitions.
use Rattle.std.specs.Prelude.{List, map, ℕ}
use Rattle.lists.specs.Lists.{padded}
use Rattle.sheet.specs.Limits.{most_agents}
use Rattle.sheet.specs.Sets.{set_of}
use Rattle.rounds.specs.Division.{Division}

-- the grade
abbrev pub store_grade : Division → ℕ → ℕ
store_grade d old = d.grade

-- the bundles, as sets: a place for each agent that a sheet may have
abbrev pub store_bundles : Division → List ℕ → List ℕ
store_bundles d old = padded most_agents 0 (map set_of d.bundles)

-- the cutters
abbrev pub store_cutters : Division → List ℕ → List ℕ
store_cutters d old = padded most_agents 0 d.cutters
