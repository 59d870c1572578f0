-- The items of the remainder of a set by 2 ^ m are those up to m; to an agent whose values are those of the items up to m, they are worth as much
-- as the set. Assumes nothing.
use mathlib.Core.Path.{◌≡◌, refl, sym, ap, ◌∙◌}
use mathlib.Core.List.Memᴰ.{head as here}
use mathlib.Core.List.Memᴰ.{tail as there}
use mathlib.Core.List.{List, [], ◌∷◌, map, map-append, Memᴰ as Mem}
use mathlib.Core.List.Sublistᴰ.{trans as sublist-trans}
use Prim.Native.Nat.{ℕ, ◌+◌, ◌-◌, ◌%◌, ◌^◌, ◌≤◌, ◌<◌}
use native.Mathlib.Nat.{div-add-mod}
use native.Mathlib.Omega.{arith}
use lib.ListN.{length-map, get_or-eq_default}
use Rattle.lists.specs.Lists.{range, filter}
use Rattle.lists.specs.Sums.{total}
use Rattle.lists.proofs.ranges.Ranges.{range-bounds, length-range, nth-map-range, range-sublist}
use Rattle.lists.proofs.members.Counting.{filter-sublist, sublist-mem}
use Rattle.lists.proofs.sums.Totals.{map-cong}
use Rattle.lists.proofs.sums.Sums.{total-append}
use Rattle.sheet.specs.Limits.{set_bits}
use Rattle.sheet.specs.Sets.{names, items_of, set_of}
use Rattle.sheet.specs.Valuations.{item_value, values_of, value}
use Rattle.sheet.specs.Tables.{all_values}
use Rattle.sheet.proofs.sets.Sets.{items-set_of}
use Rattle.sheet.proofs.sets.Items.{items_up_to, items_up_to-append, set_of-items_up_to}

module _ (m : ℕ) (few : m ≤ set_bits) where
  pub items-remainder : (set : ℕ) → items_of (set % 2 ^ m) ≡ items_up_to set m
  items-remainder set =
      let e : set % 2 ^ m ≡ set_of (items_up_to set m) = omega (arith, set_of-items_up_to set m, div-add-mod set (2 ^ m)) in
      ap items_of e ∙ items-set_of (items_up_to set m) (sublist-trans (filter-sublist (names set) (range 1 m)) (range-sublist 1 m set_bits few))

  -- an item above m has no value there
  item_value-above : (row : List ℕ) (k : ℕ) → m < k → item_value (all_values m row) k ≡ 0
  item_value-above row k above = get_or-eq_default (all_values m row) 0 {n = k - 1} (omega (arith, length-map (range 1 m) (item_value row), length-range 1 m))

  value-above : (row : List ℕ) (ks : List ℕ) → ((k : ℕ) → Mem k ks → m < k) → value (all_values m row) ks ≡ 0
  value-above row [] above = refl
  value-above row (k ∷ ks) above = omega (arith, item_value-above row k (above k (here refl)), value-above row ks (λ j mj. above j (there mj)))

  -- what a set is worth by the values of the items 1 .. m
  pub value-up_to : (row : List ℕ) (set : ℕ) → value (all_values m row) (items_of set) ≡ value row (items_up_to set m)
  unfolding items_of
  value-up_to row set =
      let rest : m + (set_bits - m) ≡ set_bits = omega arith in
      let above = filter (names set) (range (1 + m) (set_bits - m)) in
      let worth : List ℕ → List ℕ = map (item_value (all_values m row)) in
      let none : value (all_values m row) above ≡ 0 = value-above row above (λ k mk. let b = range-bounds (1 + m) (set_bits - m) (sublist-mem (filter-sublist (names set) (range (1 + m) (set_bits - m))) mk) in omega arith) in
      ap (λ j. value (all_values m row) (items_up_to set j)) (sym rest)
      ∙ ap (value (all_values m row)) (items_up_to-append set m (set_bits - m))
      ∙ ap total (map-append (item_value (all_values m row)) (items_up_to set m) above)
      ∙ total-append (worth (items_up_to set m)) (worth above)
      ∙ omega (arith, none)
      ∙ ap total (map-cong (item_value (all_values m row)) (item_value row) (items_up_to set m) (λ k mk. nth-map-range (item_value row) 0 m (sublist-mem (filter-sublist (names set) (range 1 m)) mk)))

  pub value-remainder : (row : List ℕ) (set : ℕ) → value row (items_of (set % 2 ^ m)) ≡ value (all_values m row) (items_of set)
  value-remainder row set = ap (value row) (items-remainder set) ∙ sym (value-up_to row set)

  -- the values of all items in use, and their sum
  pub values-all : (row : List ℕ) → values_of row (set_of (range 1 m)) ≡ all_values m row
  unfolding values_of
  values-all row = ap (map (item_value row)) (items-set_of (range 1 m) (range-sublist 1 m set_bits few))

  pub value-all : (row : List ℕ) → value row (items_of (set_of (range 1 m))) ≡ total (all_values m row)
  unfolding values_of
  value-all row = ap total (values-all row)
