-- The items of a set are those that it names. Assumes nothing.
use mathlib.Core.Path.{◌≡◌, refl, sym, ◌∙◌}
use mathlib.Core.Bool.{Bool, true, false, true≢false}
use Prim.Native.Nat.{ℕ, ◌≤◌}
use native.Mathlib.Omega.{arith}
use Rattle.lists.specs.Lists.{range, elem}
use Rattle.lists.proofs.ranges.Ranges.{in-range}
use Rattle.lists.proofs.members.Counting.{mem-filter, filter-mem}
use Rattle.lists.proofs.members.Distinct.{mem-elem, not-mem-elem}
use Rattle.sheet.specs.Limits.{set_bits}
use Rattle.sheet.specs.Sets.{names, items_of}

pub elem-items : (set k : ℕ) → 1 ≤ k → k ≤ set_bits → elem k (items_of set) ≡ names set k
unfolding items_of
elem-items set k lo hi = step (names set k) refl
  where
    step : (b : Bool) → names set k ≡ b → elem k (items_of set) ≡ b
    step true e = mem-elem (mem-filter (names set) (in-range 1 set_bits k lo (omega arith)) e)
    step false e = not-mem-elem k (items_of set) (λ m. true≢false (sym (filter-mem (names set) (range 1 set_bits) m).1 ∙ e))
