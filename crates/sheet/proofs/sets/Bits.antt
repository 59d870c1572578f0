-- The bits of a set of items, and the items that it names. Assumes nothing.
use mathlib.Core.Path.{◌≡◌, refl, sym, ap, ◌∙◌}
use mathlib.Core.Logic.{⊎_elim}
use mathlib.Core.List.{List, [], ◌∷◌, Memᴰ as Mem}
use Prim.Native.Nat.{ℕ, ◌+◌, ◌-◌, ◌/◌, ◌%◌, ◌^◌, ◌≤◌, ◌<◌}
use native.Mathlib.Nat.{add-sub_cancel, div-eq_of_lt}
use native.Mathlib.Omega.{arith}
use lib.Dec.{eqb}
use borrow.Author.Tests.{eq-eqb, eqb-true}
use Rattle.lists.specs.Lists.{range}
use Rattle.lists.specs.Sums.{sum_over}
use Rattle.lists.proofs.Cases.{lt-or-ge}
use Rattle.lists.proofs.ranges.Ranges.{in-range}
use Rattle.lists.proofs.members.Counting.{mem-filter, filter-mem}
use Rattle.sheet.specs.Limits.{set_bits}
use Rattle.sheet.specs.Sets.{names, items_of, set_of}

-- a set as a sum over its items
pub set_of-sum : (ks : List ℕ) → set_of ks ≡ sum_over (λ k. 2 ^ (k - 1)) ks
set_of-sum [] = refl
set_of-sum (k ∷ ks) = ap (λ s. 2 ^ (k - 1) + s) (set_of-sum ks)

-- item i + 1 is named where bit i is 1
pub names-bit : (set i : ℕ) → names set (i + 1) ≡ eqb (set / 2 ^ i % 2) 1
names-bit set i = ap (λ k. eqb (set / 2 ^ k % 2) 1) (add-sub_cancel i 1)

-- a set is at least the bit of an item that it names
pub named-le : (set i : ℕ) → set / 2 ^ i % 2 ≡ 1 → 2 ^ i ≤ set
named-le set i odd = ⊎_elim (λ (lt : set < 2 ^ i). absurd (omega (arith, div-eq_of_lt lt))) (λ le. le) (lt-or-ge set (2 ^ i))

-- an item of the set is named by it
pub mem-named : (set i : ℕ) → Mem (i + 1) (items_of set) → set / 2 ^ i % 2 ≡ 1
unfolding items_of
mem-named set i m = eqb-true (set / 2 ^ i % 2) 1 (sym (names-bit set i) ∙ (filter-mem (names set) (range 1 set_bits) m).1)

-- and an item that the set names is one of it
pub named_in : (set i : ℕ) → i < set_bits → set / 2 ^ i % 2 ≡ 1 → Mem (i + 1) (items_of set)
unfolding items_of
named_in set i low odd = mem-filter (names set) (in-range 1 set_bits (i + 1) (omega arith) (omega arith)) (names-bit set i ∙ eq-eqb (set / 2 ^ i % 2) 1 odd)
