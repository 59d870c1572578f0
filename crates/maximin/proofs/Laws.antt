-- The laws of the maximin share and of the cut that the crates above cite. Assumes nothing.
use mathlib.Core.Path.{◌≡◌, subst}
use mathlib.Core.List.{List, Memᴰ as Mem}
use Prim.Native.Nat.{ℕ, ◌*◌, ◌/◌, ◌≤◌}
use native.Mathlib.Nat.{le_of_mul-le-mul_left, le-div_iff_mul-le, mul_comm}
use native.Mathlib.Omega.{arith}
use lib.Dec.{eqb}
use lib.ListN.{length}
use borrow.Author.Tests.{eq-eqb}
use Rattle.lists.specs.Lists.{range, Within}
use Rattle.lists.specs.Sums.{total}
use Rattle.lists.specs.Dictionary.{Precedes}
use Rattle.lists.proofs.sums.LeastOf.{least_of-le}
use Rattle.lists.proofs.sums.Sums.{sum_of-same, sum_of-mono}
use Rattle.lists.proofs.dictionary.First.{le-greatest, first_best-reaches}
use Rattle.lists.proofs.dictionary.Dictionary.{precedes-refl, range-rising, lists_over-in-order, first_that-first}
use Rattle.maximin.specs.Partitions.{partitions}
use Rattle.maximin.specs.Share.{bundle_value, least_bundle, maximin_share, maximin_partition}
use Rattle.maximin.proofs.Partitions.{in-partitions, partition-within, partitions-inhabited, bundles-le-total}

module _ (n : ℕ) (values : List ℕ) where
  -- every partition's least bundle is at most the share
  pub least_bundle-le-maximin_share : (l : List ℕ) → Within n l → length l ≡ length values → least_bundle n values l ≤ maximin_share n values
  unfolding maximin_share
  least_bundle-le-maximin_share l w e = le-greatest (least_bundle n values) (partitions n (length values)) (subst (λ k. Mem l (partitions n k)) e (in-partitions n l w))

  module _ (some : 1 ≤ n) where
    maximin_partition-reaches : Mem (maximin_partition n values) (partitions n (length values)) × (least_bundle n values (maximin_partition n values) ≡ maximin_share n values)
    unfolding maximin_share maximin_partition
    maximin_partition-reaches = first_best-reaches (least_bundle n values) (partitions n (length values)) (partitions-inhabited n (length values) some)

    -- the cut is a partition: it gives each item a bundle of 1 .. n
    pub maximin_partition-within : Within n (maximin_partition n values) × (length (maximin_partition n values) ≡ length values)
    maximin_partition-within = partition-within n (length values) maximin_partition-reaches.0

    -- the cut reaches the share
    pub least_bundle-maximin_partition : least_bundle n values (maximin_partition n values) ≡ maximin_share n values
    least_bundle-maximin_partition = maximin_partition-reaches.1

    -- the share times the bundles is at most the value of all items
    pub shares-le-total : n * maximin_share n values ≤ total values
    shares-le-total =
        let w : ℕ → ℕ = λ c. bundle_value c values (maximin_partition n values) in
        omega (
          arith,
          sum_of-same (maximin_share n values) n,
          sum_of-mono (λ _. maximin_share n values) w n (λ c lo hi. omega (arith, least_bundle-maximin_partition, least_of-le w n c lo hi)),
          bundles-le-total n values (maximin_partition n values),
        )

    -- the share is no greater than the mean of the bundles
    pub maximin_share-le-mean : maximin_share n values ≤ total values / n
    maximin_share-le-mean = (le-div_iff_mul-le {k = n} {x = maximin_share n values} {y = total values} some).1 (omega (arith, mul_comm n (maximin_share n values), shares-le-total))

    -- a share that n times is the value of all items, and that a partition's least bundle reaches, is the maximin share
    pub maximin_share-of-total : (share : ℕ) (l : List ℕ) → Within n l → length l ≡ length values → least_bundle n values l ≡ share → n * share ≡ total values
        → maximin_share n values ≡ share
    maximin_share-of-total share l w same reached whole =
        let times : n * maximin_share n values ≤ n * share = omega (arith, shares-le-total) in
        omega (arith, le_of_mul-le-mul_left times some, least_bundle-le-maximin_share l w same)

    -- no partition before the cut in dictionary order reaches the share: the cut comes no later than any that does
    pub maximin_partition-precedes : (l : List ℕ) → Within n l → length l ≡ length values → least_bundle n values l ≡ maximin_share n values
        → Precedes (maximin_partition n values) l
    unfolding maximin_partition
    maximin_partition-precedes l w same reached =
        first_that-first Precedes precedes-refl (λ k. eqb (least_bundle n values k) (maximin_share n values)) (partitions n (length values))
        (lists_over-in-order (range 1 n) (length values) (range-rising 1 n)) (subst (λ k. Mem l (partitions n k)) same (in-partitions n l w))
        (eq-eqb (least_bundle n values l) (maximin_share n values) reached)
