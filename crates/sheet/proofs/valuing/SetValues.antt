-- The value of a set of one item, and the greatest value of a set. Assumes nothing.
use mathlib.Core.Path.{◌≡◌, sym, ap, ◌∙◌}
use mathlib.Core.List.{List, [], ◌∷◌}
use mathlib.Core.List.{Sublistᴰ as Sublist}
use Prim.Native.Nat.{ℕ, ◌+◌, ◌-◌, ◌^◌, ◌≤◌, ◌<◌}
use native.Mathlib.Nat.{add-sub_cancel, add-zero}
use native.Mathlib.Omega.{arith}
use lib.ListN.{get_or}
use Rattle.lists.specs.Lists.{range}
use Rattle.lists.proofs.ranges.Ranges.{in-range}
use Rattle.lists.proofs.sums.Totals.{sum_over-le}
use Rattle.lists.proofs.places.Places.{nth-next}
use Rattle.lists.proofs.members.WithoutOne.{mem-sublist}
use Rattle.sheet.specs.Limits.{set_bits, value_bound, greatest_sum}
use Rattle.sheet.specs.Sets.{items_of, set_of}
use Rattle.sheet.specs.Valuations.{item_value, value}
use Rattle.sheet.proofs.sets.Sets.{items-set_of}
use Rattle.sheet.proofs.valuing.Valuations.{length-items}

-- a set of one item is worth its mark
pub value-item : (row : List ℕ) (i : ℕ) → i < set_bits → value row (items_of (2 ^ i)) ≡ get_or row i 0
value-item row i low =
    let one : Sublist ((i + 1) ∷ []) (range 1 set_bits) = mem-sublist (range 1 set_bits) (in-range 1 set_bits (i + 1) (omega arith) (omega arith)) in
    let set : 2 ^ i ≡ set_of ((i + 1) ∷ []) = sym (ap (λ k. 2 ^ k + 0) (add-sub_cancel i 1) ∙ add-zero (2 ^ i)) in
    ap (λ s. value row (items_of s)) set ∙ ap (value row) (items-set_of ((i + 1) ∷ []) one) ∙ add-zero (item_value row (i + 1)) ∙ nth-next 0 row i

-- no set is worth more than the greatest sum
pub value-set-small : (row : List ℕ) → ((i : ℕ) → get_or row i 0 < value_bound) → (set : ℕ) → value row (items_of set) ≤ greatest_sum
value-set-small row small set = omega (arith, sum_over-le (item_value row) 1 value_bound (items_of set) (λ k mk. omega (arith, small (k - 1))), length-items set)
