-- The value of a set is that of a part and of the rest. Assumes nothing.
use mathlib.Core.Path.{◌≡◌}
use mathlib.Core.List.{List}
use Prim.Native.Nat.{ℕ, ◌+◌, ◌-◌, ◌^◌, ◌<◌}
use Rattle.sheet.specs.Limits.{most_items}
use Rattle.sheet.specs.Sets.{items_of}
use Rattle.sheet.specs.Valuations.{item_value, value}
use Rattle.exact_levels.specs.Parts.{IsPart}
use Rattle.exact_levels.proofs.sets.Parts.{split}

-- a set is worth what a part and the rest are worth together
pub value-split : (row : List ℕ) (part set : ℕ) → set < 2 ^ most_items → IsPart part set → value row (items_of set) ≡ value row (items_of part) + value row (items_of (set - part))
value-split row part set small p = (split set small p).sums (item_value row)
