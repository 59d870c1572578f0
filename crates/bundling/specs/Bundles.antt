-- The bundles (piles) of a partition (layout). Assumes nothing: these are definitions.
use Rattle.std.specs.Prelude.{Bool, List, [], ◌∷◌, map, ℕ, eqb}
use Rattle.lists.specs.Lists.{range, cons_if}
use Rattle.sheet.specs.Limits.{most_agents}
use Rattle.sheet.specs.Sets.{items_of, set_of}

-- the items that a partition puts into the bundles whose number passes the test: its entries follow the items
abbrev pub items_in : (ℕ → Bool) → List ℕ → List ℕ → List ℕ
items_in t [] l = []
items_in t (k ∷ ks) [] = []
items_in t (k ∷ ks) (c ∷ l) = cons_if (t c) k (items_in t ks l)

-- bundle c of a partition of the items
abbrev pub bundle : List ℕ → List ℕ → ℕ → List ℕ
bundle items l c = items_in (eqb c) items l

-- the bundles 1 .. n of a partition of the items 1 .. m, in turn
abbrev pub all_bundles : ℕ → ℕ → List ℕ → List (List ℕ)
all_bundles n m partition = map (bundle (range 1 m) partition) (range 1 n)

-- the set of each bundle of a partition of the items of a set, from the first bundle upward
unfoldable pub bundle_sets : ℕ → List ℕ → List ℕ
bundle_sets set partition = map (λ c. set_of (bundle (items_of set) partition c)) (range 1 most_agents)
