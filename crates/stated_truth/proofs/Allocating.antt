-- Bundles allocate the items exactly where they pass both tests: they are those of the sheet, and each item is in just one. Assumes nothing.
use mathlib.Core.Path.{◌≡◌}
use mathlib.Core.Bool.{true, and-eq-true_iff}
use mathlib.Core.List.{List, Memᴰ as Mem}
use Prim.Native.Nat.{ℕ, ◌≤◌}
use native.Mathlib.Omega.{arith}
use lib.Dec.{eqb}
use lib.ListN.{length}
use borrow.Author.Tests.{eq-eqb, eqb-true}
use Rattle.lists.specs.Lists.{range, count, elem, all}
use Rattle.lists.proofs.ranges.Ranges.{in-range, range-bounds}
use Rattle.lists.proofs.members.Counting.{mem-all, all-mem}
use Rattle.sheet.specs.Limits.{within}
use Rattle.sheet.specs.Allocations.{Allocates}
use Rattle.sheet.proofs.Limits.{within-bounds, within_both}
use Rattle.stated_truth.specs.Truth.{of_sheet, each_in_one}

module _ (n m : ℕ) (bundles : List (List ℕ)) where
  -- what the test of refusal 11 says
  pub of-sheet-says : of_sheet n m bundles ≡ true → (length bundles ≡ n) × ((b : List ℕ) → Mem b bundles → (k : ℕ) → Mem k b → (1 ≤ k) × (k ≤ m))
  unfolding of_sheet
  of-sheet-says passed =
      let (each, named) = (and-eq-true_iff (eqb (length bundles) n) (all (all (within m)) bundles)).0 passed in
      (eqb-true _ _ each, λ b mb k mk. within-bounds m k (all-mem (within m) (all-mem (all (within m)) named mb) mk))

  pub tests-allocate : of_sheet n m bundles ≡ true → each_in_one m bundles ≡ true → Allocates n m bundles
  unfolding each_in_one
  tests-allocate of-sheet in_one =
      record {
        bundle_each = (of-sheet-says of-sheet).0;
        item_in_one_bundle = λ k lo hi. eqb-true _ 1 (all-mem (λ k. eqb (count (elem k) bundles) 1) in_one (in-range 1 m k lo (omega arith)));
        no_other_item = (of-sheet-says of-sheet).1;
      }

  pub allocates-of-sheet : Allocates n m bundles → of_sheet n m bundles ≡ true
  unfolding of_sheet
  allocates-of-sheet allocates =
      rw (eq-eqb (length bundles) n allocates.bundle_each)
      (mem-all (all (within m)) bundles (λ b mb. mem-all (within m) b (λ k mk. let bounds = allocates.no_other_item b mb k mk in within_both m k bounds.0 bounds.1)))

  pub allocates-in-one : Allocates n m bundles → each_in_one m bundles ≡ true
  unfolding each_in_one
  allocates-in-one allocates =
      mem-all (λ k. eqb (count (elem k) bundles) 1) (range 1 m)
      (λ k mk. let b = range-bounds 1 m mk in eq-eqb _ 1 (allocates.item_in_one_bundle k b.0 (omega arith)))
