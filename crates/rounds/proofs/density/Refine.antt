-- A fine list refines a coarse one: each partition of the coarse list is carried out by the fine one, with the same bundle values. Assumes nothing.
use mathlib.Core.Path.{◌≡◌, ◌∙◌}
use mathlib.Core.List.{List, ◌∷◌, Permᴰ as Perm}
use Prim.Native.Nat.{ℕ, ◌+◌}
use native.Mathlib.Omega.{arith}
use Rattle.maximin.specs.Share.{bundle_value}
use Rattle.maximin.proofs.AnyOrder.{perm-relaid}
use Rattle.rounds.proofs.density.Partition.{PartitionByItems, place, partition_by_items-length, partition_by_items-within, within-partition_by_items, value_if-add}

-- a partition of the fine list into n bundles that have the values of the partition l of the coarse list
pub record Realised (n : ℕ) (l coarse fine : List ℕ) : Type 0 where
  pub partition : List ℕ
  pub is_partition : PartitionByItems n partition fine
  pub same_value : (c : ℕ) → bundle_value c fine partition ≡ bundle_value c coarse l

abbrev pub Refines : List ℕ → List ℕ → Type 0
Refines coarse fine = (n : ℕ) (l : List ℕ) → PartitionByItems n l coarse → Realised n l coarse fine

pub refines-trans : {xs ys zs : List ℕ} → Refines xs ys → Refines ys zs → Refines xs zs
refines-trans f g n l r =
    let s = f n l r in
    let t = g n s.partition s.is_partition in
    record { partition = t.partition; is_partition = t.is_partition; same_value = λ c. t.same_value c ∙ s.same_value c }

-- two values do what their sum does
pub refines-merge : (x y : ℕ) (xs : List ℕ) → Refines ((x + y) ∷ xs) (x ∷ y ∷ xs)
refines-merge x y xs n l₀ (place {c = d} {l} h k r) =
    record { partition = d ∷ d ∷ l; is_partition = place h k (place h k r); same_value = λ c. omega (arith, value_if-add c d x y) }

-- the values in another order
pub perm-refines : {xs ys : List ℕ} → Perm xs ys → Refines xs ys
perm-refines {ys = ys} p n l r =
    let t = perm-relaid n p l (partition_by_items-within r) (partition_by_items-length r) in
    record { partition = t.laid; is_partition = within-partition_by_items t.laid ys t.within t.whole; same_value = t.worth }
