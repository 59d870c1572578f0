-- The value of a bundle (the worth of a pile), the least bundle of a partition, the maximin share and the partition (cut) that shows it.
-- Assumes nothing: these are definitions.
use Rattle.std.specs.Prelude.{cond, List, [], ◌∷◌, ℕ, ◌+◌, eqb, length}
use Rattle.lists.specs.Sums.{least_of}
use Rattle.lists.specs.Dictionary.{greatest, first_at}
use Rattle.maximin.specs.Partitions.{partitions}

-- "worth being a sum of marks": the sum of the values that a partition puts into bundle c
abbrev pub bundle_value : ℕ → List ℕ → List ℕ → ℕ
bundle_value c [] l = 0
bundle_value c (v ∷ values) [] = 0
bundle_value c (v ∷ values) (d ∷ l) = cond (eqb c d) v 0 + bundle_value c values l

-- "The least pile of a layout is the smallest worth among all n piles"
abbrev pub least_bundle : ℕ → List ℕ → List ℕ → ℕ
least_bundle n values l = least_of (λ c. bundle_value c values l) n

-- "The maximin share is the greatest least pile over all layouts"
unfoldable pub maximin_share : ℕ → List ℕ → ℕ
maximin_share n values = greatest (least_bundle n values) (partitions n (length values))

-- "The cut is a layout that reaches it", of several "the first in dictionary order"
unfoldable pub maximin_partition : ℕ → List ℕ → List ℕ
maximin_partition n values = first_at (least_bundle n values) (maximin_share n values) (partitions n (length values))
