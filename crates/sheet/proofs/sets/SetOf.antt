-- The set of the numbers that pass a test, from the first to the last, and that of a rising list. Assumes nothing.
use mathlib.Core.Path.{◌≡◌, ap, ◌∙◌}
use mathlib.Core.Bool.{Bool, true, false, or-false}
use mathlib.Core.List.{List, [], ◌∷◌, ◌++◌, append-nil}
use mathlib.Core.List.{Sublistᴰ as Sublist}
use Prim.Native.Nat.{ℕ, ◌+◌, ◌-◌, ◌^◌, ◌≤◌, ◌<◌}
use native.Mathlib.Nat.{add-sub_cancel, add-zero}
use native.Mathlib.Omega.{arith}
use lib.Dec.{eqb}
use lib.ListN.{length, replicate}
use borrow.Author.Tests.{ne_eqb}
use Rattle.lists.specs.Lists.{range, filter, elem, padded}
use Rattle.lists.proofs.ranges.Ranges.{range-bounds}
use Rattle.lists.proofs.places.Zeros.{mem-zeros}
use Rattle.lists.proofs.places.Passing.{range-next}
use Rattle.lists.proofs.members.Counting.{filter-append, filter-sublist, any_append, any_none}
use Rattle.lists.proofs.members.Congruence.{filter-cong}
use Rattle.lists.proofs.members.Distinct.{range-distinct, filter-elem}
use Rattle.sheet.specs.Limits.{set_bits}
use Rattle.sheet.specs.Sets.{set_of, set_among}
use Rattle.sheet.proofs.sets.Items.{set_of-append}
use Rattle.sheet.proofs.sets.Ranges.{set_of-below}

module _ (p : ℕ → Bool) (i : ℕ) where
  passed-next : filter p (range 1 (i + 1)) ≡ filter p (range 1 i) ++ filter p ((i + 1) ∷ [])
  passed-next = ap (filter p) (range-next i) ∙ filter-append p (range 1 i) ((i + 1) ∷ [])

  -- one number more passes
  pub passed_more : p (i + 1) ≡ true → set_of (filter p (range 1 (i + 1))) ≡ set_of (filter p (range 1 i)) + 2 ^ i
  passed_more passes =
      ap set_of passed-next
      ∙ rw passes
      (set_of-append (filter p (range 1 i)) ((i + 1) ∷ [])
      ∙ ap (λ k. set_of (filter p (range 1 i)) + (2 ^ k + 0)) (add-sub_cancel i 1)
      ∙ ap (λ s. set_of (filter p (range 1 i)) + s) (add-zero (2 ^ i)))

  -- one number more does not
  pub passed_same : p (i + 1) ≡ false → set_of (filter p (range 1 (i + 1))) ≡ set_of (filter p (range 1 i))
  passed_same fails = ap set_of passed-next ∙ rw fails (ap set_of (append-nil (filter p (range 1 i))))

  -- the set names no number above i
  pub passed-small : set_of (filter p (range 1 i)) < 2 ^ i
  passed-small = set_of-below i (filter-sublist p (range 1 i))

-- the set of a list of items in rising order
pub set_among-rising : {l : List ℕ} → Sublist l (range 1 set_bits) → set_among l ≡ set_of l
unfolding set_among
set_among-rising s = ap set_of (filter-elem s (range-distinct 1 set_bits))

-- zeros behind a list are no items
pub elem-padded : (n : ℕ) (l : List ℕ) (k : ℕ) → 1 ≤ k → elem k (padded n 0 l) ≡ elem k l
elem-padded n l k some =
    any_append (eqb k) l (replicate (n - length l) 0)
    ∙ rw (any_none (eqb k) (replicate (n - length l) 0) (λ x m. ne_eqb k x (λ e. absurd (omega (arith, mem-zeros (n - length l) m))))) (or-false (elem k l))

-- the set of a list of items in rising order, with zeros behind it
pub set_among-padded : {l : List ℕ} → Sublist l (range 1 set_bits) → set_among (padded set_bits 0 l) ≡ set_of l
unfolding set_among
set_among-padded {l} s =
    ap set_of
    (filter-cong (λ k. elem k (padded set_bits 0 l)) (λ k. elem k l) (range 1 set_bits) (λ k m. elem-padded set_bits l k (range-bounds 1 set_bits m).0)
    ∙ filter-elem s (range-distinct 1 set_bits))
