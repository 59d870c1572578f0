-- Laws of the places in use of a table: each agent's values and bundle values are those of the table, and how great they are. Assumes
-- nothing.
use mathlib.Core.Path.{◌≡◌, ap, ◌∙◌}
use mathlib.Core.List.{List, [], map, Memᴰ as Mem}
use mathlib.Core.List.{Sublistᴰ as Sublist}
use Prim.Native.Nat.{ℕ, ◌*◌, ◌≤◌}
use native.Mathlib.Omega.{arith}
use lib.ListN.{length, length-map}
use Rattle.lists.specs.Lists.{range}
use Rattle.lists.specs.Sums.{total}
use Rattle.lists.proofs.ranges.Ranges.{length-range, range-bounds, nth-map-range}
use Rattle.lists.proofs.members.Counting.{sublist-mem, length-sublist}
use Rattle.lists.proofs.sums.Totals.{map-cong, sum_over-le}
use Rattle.sheet.specs.Limits.{most_items, greatest_mark}
use Rattle.sheet.specs.Valuations.{item_value, value}
use Rattle.sheet.specs.Tables.{valuation_of, all_values, profile, AgreeInUse}

-- a row for each of n agents
pub length-profile : (n m : ℕ) (table : List (List ℕ)) → length (profile n m table) ≡ n
unfolding profile
length-profile n m table = length-map (range 1 n) (λ i. all_values m (valuation_of table i)) ∙ length-range 1 n

module _ (n m : ℕ) (table : List (List ℕ)) {agent : ℕ} (in_use : Mem agent (range 1 n)) where
  pub valuation_of-profile : valuation_of (profile n m table) agent ≡ all_values m (valuation_of table agent)
  unfolding profile
  valuation_of-profile = nth-map-range (λ i. all_values m (valuation_of table i)) [] n in_use

  pub item_value-profile : (k : ℕ) → Mem k (range 1 m) → item_value (valuation_of (profile n m table) agent) k ≡ item_value (valuation_of table agent) k
  item_value-profile k mk = ap (λ row. item_value row k) valuation_of-profile ∙ nth-map-range (item_value (valuation_of table agent)) 0 m mk

  pub values-profile : {items : List ℕ} → Sublist items (range 1 m) → map (item_value (valuation_of (profile n m table) agent)) items ≡ map (item_value (valuation_of table agent)) items
  values-profile {items} s = map-cong (item_value (valuation_of (profile n m table) agent)) (item_value (valuation_of table agent)) items (λ k mk. item_value-profile k (sublist-mem s mk))

  pub value-profile : {items : List ℕ} → Sublist items (range 1 m) → value (valuation_of (profile n m table) agent) items ≡ value (valuation_of table agent) items
  value-profile s = ap total (values-profile s)

module _ (m : ℕ) (row : List ℕ) {items : List ℕ} (s : Sublist items (range 1 m)) where
  -- the value of some of the items 1 .. m by the values of these items is that by the whole row
  pub value-all_values : value (all_values m row) items ≡ value row items
  value-all_values = ap total (map-cong (item_value (all_values m row)) (item_value row) items (λ k mk. nth-map-range (item_value row) 0 m (sublist-mem s mk)))

  -- and is no greater than the marks of all items can be
  pub value-small : m ≤ most_items → ((k : ℕ) → item_value row k ≤ greatest_mark) → value row items ≤ most_items * greatest_mark
  value-small few small =
      omega (arith, sum_over-le (item_value row) 1 greatest_mark items (λ k mk. omega (arith, small k)), length-sublist s, length-range 1 m)

pub profile-agree : (n m : ℕ) (table table' : List (List ℕ)) → AgreeInUse n m table table' → profile n m table ≡ profile n m table'
unfolding profile
profile-agree n m table table' same =
    map-cong (λ i. all_values m (valuation_of table i)) (λ i. all_values m (valuation_of table' i)) (range 1 n)
    (λ agent ma. map-cong (item_value (valuation_of table agent)) (item_value (valuation_of table' agent)) (range 1 m)
    (λ k mk. let a = range-bounds 1 n ma in let b = range-bounds 1 m mk in same agent k a.0 (omega arith) b.0 (omega arith)))
