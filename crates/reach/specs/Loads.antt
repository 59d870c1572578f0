-- Loads: what lies on each bundle (pile) while the items are laid. Assumes nothing: these are definitions.
use Rattle.std.specs.Prelude.{List, ℕ, ◌+◌, min, max}
use Rattle.lists.specs.Lists.{nth}
use Rattle.lists.specs.Sums.{least_of}
use Rattle.sheet.specs.Limits.{most_agents}
use Rattle.maximin.specs.Share.{bundle_value}

-- the load of bundle c
abbrev pub load_of : List ℕ → ℕ → ℕ
load_of loads c = nth 0 loads c

-- the least of the bundles 1 .. n once the partition l of the values is put on top of the loads
abbrev pub least_loaded : (n : ℕ) (load : ℕ → ℕ) (values l : List ℕ) → ℕ
least_loaded n load values l = least_of (λ c. load c + bundle_value c values l) n

-- a number of bundles, cut to the limits of a cut
abbrev pub limited_bundles : ℕ → ℕ
limited_bundles bundles = max 1 (min bundles most_agents)
