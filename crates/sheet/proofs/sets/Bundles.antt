-- The bundles of the agents as sets in an array: agent i + 1's stands at place i. Assumes nothing.
use mathlib.Core.Path.{◌≡◌, ap, ◌∙◌}
use mathlib.Core.List.{List, [], map, Memᴰ as Mem}
use mathlib.Core.List.{Sublistᴰ as Sublist}
use Prim.Native.Nat.{ℕ, ◌+◌, ◌-◌}
use lib.ListN.{length, get_or, length-map, get_or-map}
use Rattle.lists.specs.Lists.{range, nth, padded}
use Rattle.lists.proofs.places.Padding.{nth-padded}
use Rattle.lists.proofs.places.Places.{nth-next}
use Rattle.sheet.specs.Limits.{most_agents, set_bits}
use Rattle.sheet.specs.Sets.{items_of, set_of}
use Rattle.sheet.proofs.sets.Sets.{items-set_of}

pub nth-items : (sets : List ℕ) (i : ℕ) → nth [] (map items_of sets) (i + 1) ≡ items_of (get_or sets i 0)
unfolding items_of
nth-items sets i = nth-next [] (map items_of sets) i ∙ get_or-map items_of sets i 0

-- the set of agent i's bundle, among those of n agents, names the items of the bundle
pub nth-set-items : (n : ℕ) (bundles : List (List ℕ)) → length bundles ≡ n → {i : ℕ} → Mem i (range 1 n) → Sublist (nth [] bundles i) (range 1 set_bits)
    → items_of (nth 0 (padded most_agents 0 (map set_of bundles)) i) ≡ nth [] bundles i
nth-set-items n bundles each {i} in_use s =
    let each_set : length (map set_of bundles) ≡ n = length-map bundles set_of ∙ each in
    ap items_of (nth-padded most_agents 0 0 (map set_of bundles) (rw each_set in_use) ∙ get_or-map set_of bundles (i - 1) []) ∙ items-set_of (nth [] bundles i) s
