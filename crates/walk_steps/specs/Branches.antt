-- The branches of a walk: how many partitions they have, and which are passed over. Assumes nothing: these are definitions.
use Rattle.std.specs.Prelude.{Bool, ◌&&◌, List, [], ℕ, leb, ltb, get_or}

-- the count that a table has for `left` more items where the bundles 1 .. used are in use
abbrev pub count_at : List (List ℕ) → ℕ → ℕ → ℕ
count_at counts left used = get_or (get_or counts left []) used 0

-- whether an item is wasted on a bundle, counted from 0, with such a load: it is not the first, it is in use, and it has the goal already
abbrev pub is_wasted : (goal load bundle used : ℕ) → Bool
is_wasted goal load bundle used = leb 1 bundle && (ltb bundle used && leb goal load)
