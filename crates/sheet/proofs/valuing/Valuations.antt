-- The number of items of a set, and of their values. Assumes nothing.
use mathlib.Core.List.{List}
use Prim.Native.Nat.{ℕ, ◌^◌, ◌≤◌, ◌<◌}
use native.Mathlib.Omega.{arith}
use lib.ListN.{length, length-map}
use Rattle.lists.specs.Lists.{range, Within}
use Rattle.lists.proofs.ranges.Ranges.{length-range, mem-within}
use Rattle.lists.proofs.members.Counting.{filter-sublist, length-sublist}
use Rattle.lists.proofs.places.Passing.{within-sublist}
use Rattle.sheet.specs.Limits.{set_bits}
use Rattle.sheet.specs.Sets.{names, items_of}
use Rattle.sheet.specs.Valuations.{item_value, values_of}
use Rattle.sheet.proofs.sets.Items.{items-sublist}

-- a set names at most sixteen items
pub length-items : (set : ℕ) → length (items_of set) ≤ set_bits
unfolding items_of
length-items set = omega (arith, length-sublist (filter-sublist (names set) (range 1 set_bits)), length-range 1 set_bits)

-- each of 1 .. 16
pub items_within : (set : ℕ) → Within set_bits (items_of set)
unfolding items_of
items_within set = within-sublist set_bits (items_of set) (range 1 set_bits) (filter-sublist (names set) (range 1 set_bits)) (mem-within set_bits (range 1 set_bits) (λ c m. m))

-- a set below 2 ^ m has at most m values
pub length-values : (valuation : List ℕ) (set m : ℕ) → set < 2 ^ m → m ≤ set_bits → length (values_of valuation set) ≤ m
unfolding values_of
length-values valuation set m small few =
    omega (arith, length-map (items_of set) (item_value valuation), length-sublist (items-sublist set m small few), length-range 1 m)
