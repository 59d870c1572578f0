-- Growth partitions (document 02, order 7: growth layouts) of items (pieces) into n bundles (piles). Assumes nothing: these are definitions.
use Rattle.std.specs.Prelude.{List, [], ◌∷◌, ℕ, zero, suc, ◌≤◌, min, max, length}
use Rattle.lists.specs.Lists.{range}
use Rattle.lists.specs.Dictionary.{branches}

-- "each later one in a pile in use or in the next new one, up to n piles": those of k more items, where the bundles 1 .. used are in use
abbrev pub growth_from : (n used k : ℕ) → List (List ℕ)
growth_from n used zero = [] ∷ []
growth_from n used (suc k) = branches (λ c. growth_from n (max used c) k) (range 1 (min (suc used) n))

-- "A growth layout puts the first piece in pile 1 ..; the empty set has one": those of k items, in dictionary order
abbrev pub growth_partitions : ℕ → ℕ → List (List ℕ)
growth_partitions n k = growth_from n 0 k

-- how many growth partitions k items have
unfoldable pub growths : ℕ → ℕ → ℕ
growths n k = length (growth_partitions n k)

-- the same sentence as a test of one partition: its next entry is one of the bundles in use or the next new one, up to n, and so on.
-- proofs/Listed.antt shows that the list has the partitions that pass it, each once, in dictionary order
abbrev pub Grows : ℕ → ℕ → List ℕ → Type 0
Grows n used [] = Unit {0}
Grows n used (c ∷ l) = (1 ≤ c) × (c ≤ min (suc used) n) × Grows n (max used c) l
