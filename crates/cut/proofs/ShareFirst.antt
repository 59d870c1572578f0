-- The share first, over the values in another order, and then the first partition that reaches it. Assumes nothing.
use mathlib.Core.Path.{◌≡◌, sym, ap, subst, ◌∙◌}
use mathlib.Core.List.{List, Permᴰ as Perm}
use Prim.Native.Nat.{ℕ, ◌+◌, ◌-◌, ◌≤◌}
use native.Mathlib.Omega.{arith}
use lib.ListN.{length}
use Rattle.lists.proofs.members.Permuted.{length-perm, total-perm}
use Rattle.growth.specs.Growth.{growths}
use Rattle.maximin.specs.Share.{maximin_share, maximin_partition}
use Rattle.maximin.proofs.AnyOrder.{maximin_share-perm}
use Rattle.walking.specs.Walk.{finding, finding_after}
use Rattle.cut.specs.internal.Allowed.{Allowed}
use Rattle.cut.proofs.Whole.{found_with, finding-share, finding-goal}

module _ (n : ℕ) (ordered values : List ℕ) (allowance : ℕ) (same : Perm ordered values) (a : Allowed values n allowance) where
  allowed-ordered : Allowed ordered n allowance
  allowed-ordered =
      record {
        few = omega (arith, length-perm same, a.few);
        small = omega (arith, total-perm same, a.small);
        some_bundles = a.some_bundles;
        few_bundles = a.few_bundles;
        some_allowance = a.some_allowance;
      }

  -- the share does not depend on the order of the values
  pub same-share : maximin_share n ordered ≡ maximin_share n values
  same-share = maximin_share-perm n a.some_bundles same

  module _ (ceiling goal : ℕ) (enough : growths n (length values) ≤ allowance) (under : maximin_share n values ≤ ceiling) where
    -- what the first search finds is the share
    first-share : 1 ≤ goal → goal ≤ maximin_share n values + 1 → (finding ordered n ceiling goal allowance).best.goal - 1 ≡ maximin_share n values
    first-share positive low =
        let enough-ordered = subst (λ k. growths n k ≤ allowance) (sym (length-perm same)) enough in
        omega (
          arith,
          same-share,
          finding-goal n ordered allowance ceiling goal allowed-ordered (omega (arith, same-share)) enough-ordered positive (omega (arith, same-share)),
        )

    -- and the second ends at it and its first partition
    pub finding-after : 1 ≤ goal → goal ≤ maximin_share n values + 1
        → finding_after ordered values n ceiling goal allowance ≡ found_with n values allowance (maximin_share n values) (maximin_partition n values)
    unfolding finding_after
    finding-after positive low =
        let share = maximin_share n values in
        ap (λ least. finding values n least least allowance) (first-share positive low)
        ∙ finding-share n values allowance share share a (omega arith) enough (omega arith)
