-- A partition as evidence along the values that it lays out, and the value of a bundle. Assumes nothing.
use mathlib.Core.Path.{◌≡◌, refl, ap, ap₂}
use mathlib.Core.Bool.{cond}
use mathlib.Core.Logic.{⊎_elim}
use mathlib.Core.List.{List, [], ◌∷◌, map}
use Prim.Native.Nat.{ℕ, suc, ◌+◌, ◌≤◌, zero-le}
use native.Mathlib.Nat.{add-le-add, le_refl, le_trans}
use native.Mathlib.Omega.{arith}
use lib.Dec.{eqb}
use lib.ListN.{length}
use borrow.Author.Tests.{eq-eqb, ne_eqb}
use Rattle.lists.specs.Sums.{total}
use Rattle.lists.specs.Lists.{Within}
use Rattle.lists.proofs.Cases.{eq-or-ne}
use Rattle.maximin.specs.Share.{bundle_value}

-- l gives each of the values the number of a bundle, from 1 to n
pub data PartitionByItems (n : ℕ) : List ℕ → List ℕ → Type 0 where
  empty : PartitionByItems n [] []
  place : {c x : ℕ} {l values : List ℕ} → 1 ≤ c → c ≤ n → PartitionByItems n l values → PartitionByItems n (c ∷ l) (x ∷ values)

pub partition_by_items-length : {n : ℕ} {l values : List ℕ} → PartitionByItems n l values → length l ≡ length values
partition_by_items-length empty = refl
partition_by_items-length (place h k r) = ap suc (partition_by_items-length r)

pub partition_by_items-within : {n : ℕ} {l values : List ℕ} → PartitionByItems n l values → Within n l
partition_by_items-within empty = tt
partition_by_items-within (place h k r) = (h, k, partition_by_items-within r)

pub within-partition_by_items : {n : ℕ} (l values : List ℕ) → Within n l → length l ≡ length values → PartitionByItems n l values
within-partition_by_items [] [] w e = empty
within-partition_by_items [] (x ∷ values) w e = absurd (omega arith)
within-partition_by_items (c ∷ l) [] w e = absurd (omega arith)
within-partition_by_items (c ∷ l) (x ∷ values) w e = place w.0 w.1 (within-partition_by_items l values w.2 (omega arith))

pub partition_by_items-weaken : {n m : ℕ} {l values : List ℕ} → n ≤ m → PartitionByItems n l values → PartitionByItems m l values
partition_by_items-weaken le empty = empty
partition_by_items-weaken le (place h k r) = place h (le_trans k le) (partition_by_items-weaken le r)

-- x where c and d are the same bundle, and 0 where not
abbrev pub value_if : ℕ → ℕ → ℕ → ℕ
value_if c d x = cond (eqb c d) x 0

module _ {c d : ℕ} (x : ℕ) where
  pub value_if-same : c ≡ d → value_if c d x ≡ x
  value_if-same e = rw (eq-eqb c d e)

  pub value_if-other : (c ≡ d → ⊥) → value_if c d x ≡ 0
  value_if-other ne = rw (ne_eqb c d ne)

pub value_if-le : (c d x : ℕ) → value_if c d x ≤ x
value_if-le c d x = ⊎_elim (λ e. omega (arith, value_if-same x e)) (λ ne. omega (arith, value_if-other x ne)) (eq-or-ne c d)

pub value_if-add : (c d x y : ℕ) → value_if c d (x + y) ≡ value_if c d x + value_if c d y
value_if-add c d x y =
    ⊎_elim
    (λ e. omega (arith, value_if-same (x + y) e, value_if-same x e, value_if-same y e))
    (λ ne. omega (arith, value_if-other (x + y) ne, value_if-other x ne, value_if-other y ne))
    (eq-or-ne c d)

pub bundle_value-le-total : (c : ℕ) (values l : List ℕ) → bundle_value c values l ≤ total values
bundle_value-le-total c [] l = zero-le
bundle_value-le-total c (x ∷ values) [] = zero-le
bundle_value-le-total c (x ∷ values) (d ∷ l) = add-le-add (value_if-le c d x) (bundle_value-le-total c values l)

-- the partition with everything in bundle 1
abbrev pub one_bundle : List ℕ → List ℕ
one_bundle values = map (λ x. 1) values

pub one_bundle-partition : {n : ℕ} (values : List ℕ) → 1 ≤ n → PartitionByItems n (one_bundle values) values
one_bundle-partition [] h = empty
one_bundle-partition (x ∷ values) h = place (le_refl 1) h (one_bundle-partition values h)

pub bundle_value-one_bundle : (values : List ℕ) → bundle_value 1 values (one_bundle values) ≡ total values
bundle_value-one_bundle [] = refl
bundle_value-one_bundle (x ∷ values) = ap₂ ◌+◌ (value_if-same {c = 1} x refl) (bundle_value-one_bundle values)
