-- What `partitions` lists, and the values of the bundles of a partition. Assumes nothing.
use mathlib.Core.Path.{◌≡◌, refl}
use mathlib.Core.Bool.{Bool, true, false, cond}
use mathlib.Core.List.Memᴰ.{head as here}
use mathlib.Core.List.{List, [], ◌∷◌, map-id, Memᴰ as Mem}
use Prim.Native.Nat.{ℕ, zero, suc, ◌+◌, ◌≤◌}
use native.Mathlib.Nat.{zero-add}
use native.Mathlib.Omega.{arith}
use lib.Dec.{eqb}
use lib.ListN.{length, replicate}
use Rattle.lists.specs.Lists.{range, Within}
use Rattle.lists.specs.Sums.{total, sum_of, sum_over}
use Rattle.lists.proofs.ranges.Ranges.{in-range, within-mem, mem-within}
use Rattle.lists.proofs.dictionary.Listed.{in-branches, in-lists_over, lists_over-in}
use Rattle.lists.proofs.sums.Sums.{sum_of-zero, sum_of-add, sum_of-mono, sum_of-once}
use Rattle.maximin.specs.Partitions.{partitions}
use Rattle.maximin.specs.Share.{bundle_value}

-- every list within 1 .. n is a partition
pub in-partitions : (n : ℕ) (l : List ℕ) → Within n l → Mem l (partitions n (length l))
in-partitions n l w = in-lists_over (range 1 n) l (within-mem n l w)

-- every partition is within 1 .. n, with an entry for each item
pub partition-within : (n k : ℕ) {l : List ℕ} → Mem l (partitions n k) → Within n l × (length l ≡ k)
partition-within n k {l} m = let r = lists_over-in (range 1 n) k m in (mem-within n l r.0, r.1)

-- all items in bundle 1: the first partition
pub partitions-inhabited : (n k : ℕ) → 1 ≤ n → Mem (replicate k 1) (partitions n k)
partitions-inhabited n zero pos = here refl
partitions-inhabited n (suc k) pos = in-branches (λ _. partitions n k) (range 1 n) (in-range 1 n 1 (omega arith) (omega arith)) (partitions-inhabited n k pos)

-- where f of a sum is at most the sum of f, the values of the bundles come under f to no more than all values do
pub sum_of-bundle_value : (f : ℕ → ℕ) → f 0 ≡ 0 → ((x y : ℕ) → f (x + y) ≤ f x + f y) → (n : ℕ) (values l : List ℕ)
    → sum_of (λ c. f (bundle_value c values l)) n ≤ sum_over f values
sum_of-bundle_value f none parts n [] l = omega (arith, sum_of-zero (λ _. f 0) n (λ _. none))
sum_of-bundle_value f none parts n (v ∷ values) [] = omega (arith, sum_of-zero (λ _. f 0) n (λ _. none))
sum_of-bundle_value f none parts n (v ∷ values) (d ∷ l) = omega (
  arith,
  sum_of-mono (λ c. f (cond (eqb c d) v 0 + bundle_value c values l)) (λ c. cond (eqb c d) (f v) 0 + f (bundle_value c values l)) n
      (λ c lo hi. part (eqb c d) (bundle_value c values l)),
  sum_of-add (λ c. cond (eqb c d) (f v) 0) (λ c. f (bundle_value c values l)) n,
  sum_of-once d (f v) n,
  sum_of-bundle_value f none parts n values l,
)
  where
    part : (t : Bool) (x : ℕ) → f (cond t v 0 + x) ≤ cond t (f v) 0 + f x
    part true x = parts v x
    part false x = rw (zero-add x) (omega arith)

-- the bundles are worth no more than all values
pub bundles-le-total : (n : ℕ) (values l : List ℕ) → sum_of (λ c. bundle_value c values l) n ≤ total values
bundles-le-total n values l = rw map-id at (sum_of-bundle_value (λ v. v) refl (λ x y. omega arith) n values l)
