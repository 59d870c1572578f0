-- Whether a set names items of the sheet only, by its size, and whether several sets do. Assumes nothing.
use mathlib.Core.Path.{◌≡◌, refl, sym, ap, ap₂, ◌∙◌}
use mathlib.Core.Bool.{Bool, true, false, ◌&&◌, true≢false}
use mathlib.Core.List.{List, [], ◌∷◌, map}
use Prim.Native.Nat.{ℕ, suc, ◌^◌, ◌≤◌, ◌<◌}
use native.Mathlib.Omega.{arith}
use lib.Dec.{leb}
use lib.ListN.{length, get_or, length-map}
use borrow.Author.Tests.{eq-eqb, le-leb, leb-true, leb-false}
use Rattle.lists.specs.Lists.{range, all}
use Rattle.lists.proofs.ranges.Ranges.{range-bounds}
use Rattle.lists.proofs.members.Counting.{mem-all, sublist-mem}
use Rattle.lists.proofs.members.Each.{all_weaker}
use Rattle.sheet.specs.Limits.{set_bits, within}
use Rattle.sheet.specs.Sets.{items_of, set_of}
use Rattle.sheet.proofs.Limits.{within_both, within-bounds}
use Rattle.sheet.proofs.sets.Items.{items-sublist}
use Rattle.sheet.proofs.sets.Ranges.{set_of-up_to, names-one-above}
use Rattle.stated_truth.specs.Truth.{of_sheet}

-- a 16-bit set that is not greater than the set of the items 1 .. m names these only, and a greater one does not
pub names-items-test : (set m : ℕ) → m ≤ set_bits → set < 2 ^ set_bits → leb set (set_of (range 1 m)) ≡ all (within m) (items_of set)
names-items-test set m few wide = step (leb set (set_of (range 1 m))) refl
  where
    below : set < 2 ^ m → all (within m) (items_of set) ≡ true
    below small = mem-all (within m) (items_of set) (λ k named. let b = range-bounds 1 m (sublist-mem (items-sublist set m small few) named) in within_both m k b.0 (omega arith))

    above : 2 ^ m ≤ set → (b : Bool) → all (within m) (items_of set) ≡ b → false ≡ b
    above large false e = refl
    above large true e =
        absurd (true≢false (sym (all_weaker (within m) (λ k. leb k m) (λ k w. le-leb k m (within-bounds m k w).1) (items_of set) e) ∙ names-one-above set m few large wide))

    step : (b : Bool) → leb set (set_of (range 1 m)) ≡ b → b ≡ all (within m) (items_of set)
    step true e = let le = leb-true set (set_of (range 1 m)) e in sym (below (omega (arith, le, set_of-up_to m)))
    step false e = let lt = leb-false set (set_of (range 1 m)) e in above (omega (arith, lt, set_of-up_to m)) (all (within m) (items_of set)) refl

-- several sets name items of the sheet only, set after set
pub of-sheet-each : (m : ℕ) (sets : List ℕ) → m ≤ set_bits → ((i : ℕ) → get_or sets i 0 < 2 ^ set_bits)
    → all (λ set. leb set (set_of (range 1 m))) sets ≡ of_sheet (length sets) m (map items_of sets)
unfolding of_sheet
of-sheet-each m sets few wide =
    each sets wide ∙ sym (ap (λ b. b && all (all (within m)) (map items_of sets)) (eq-eqb (length (map items_of sets)) (length sets) (length-map sets items_of)))
  where
    each : (sets : List ℕ) → ((i : ℕ) → get_or sets i 0 < 2 ^ set_bits) → all (λ set. leb set (set_of (range 1 m))) sets ≡ all (all (within m)) (map items_of sets)
    each [] wide = refl
    each (x ∷ xs) wide = ap₂ ◌&&◌ (names-items-test x m few (wide 0)) (each xs (λ i. wide (suc i)))
