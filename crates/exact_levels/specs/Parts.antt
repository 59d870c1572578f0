-- Parts of a set of items. Assumes nothing: these are definitions.
use Rattle.std.specs.Prelude.{Bool, not, ◌||◌, ℕ, ◌≤◌}
use mathlib.Core.List.{Sublistᴰ as Sublist}
use Rattle.lists.specs.Lists.{range, all}
use Rattle.sheet.specs.Limits.{set_bits}
use Rattle.sheet.specs.Sets.{names, items_of}

-- the items of `part` are some of those of `set`
pub record IsPart (part set : ℕ) : Type 0 where
  pub below : part ≤ set
  pub some_items : Sublist (items_of part) (items_of set)

-- whether `set` names each item that `part` names
unfoldable pub is_part : ℕ → ℕ → Bool
is_part part set = all (λ k. not (names part k) || names set k) (range 1 set_bits)
