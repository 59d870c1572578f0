-- Shares that leave nothing over: each agent's total is n times one number, and a partition into n bundles of that value is shown for each.
-- Then that number is every agent's share. Assumes nothing.
use mathlib.Core.Path.{◌≡◌}
use mathlib.Core.Bool.{Bool, true, ◌&&◌, and-eq-true_iff}
use mathlib.Core.List.{List, []}
use Prim.Native.Nat.{ℕ, ◌*◌, ◌≤◌}
use native.Mathlib.Omega.{arith}
use lib.Dec.{eqb}
use lib.ListN.{length}
use borrow.Author.Tests.{eqb-true}
use Rattle.lists.specs.Lists.{range, nth, all}
use Rattle.lists.specs.Sums.{total}
use Rattle.lists.proofs.ranges.Ranges.{in-range}
use Rattle.lists.proofs.members.Counting.{all-mem}
use Rattle.sheet.specs.Limits.{within}
use Rattle.sheet.specs.Tables.{valuation_of, all_values}
use Rattle.sheet.proofs.Limits.{each_within}
use Rattle.sheet.specs.Contents.{sheet_of}
use Rattle.maximin.specs.Share.{least_bundle}
use Rattle.maximin.proofs.Laws.{maximin_share-of-total}
use Rattle.shares.specs.Shares.{share_of}

module _ (n m : ℕ) (table : List (List ℕ)) (share : ℕ) (partitions : List (List ℕ)) where
  abbrev values : ℕ → List ℕ
  values agent = all_values m (valuation_of table agent)

  -- the agent's partition has n bundles of that value, and these are all items
  abbrev pub shows : ℕ → Bool
  shows agent =
      let l = nth [] partitions agent in
      (all (within n) l && eqb (length l) (length (values agent))) && (eqb (least_bundle n (values agent) l) share && eqb (n * share) (total (values agent)))

  pub shares-shown : all shows (range 1 n) ≡ true → (agent : ℕ) → 1 ≤ agent → agent ≤ n → share_of (sheet_of n m table) agent ≡ share
  shares-shown shown agent lo hi =
      let l = nth [] partitions agent in
      let (listed, worth) = (and-eq-true_iff (all (within n) l && eqb (length l) (length (values agent))) (eqb (least_bundle n (values agent) l) share && eqb (n * share) (total (values agent)))).0
      (all-mem shows shown (in-range 1 n agent lo (omega arith))) in
      let (in-bundles, each) = (and-eq-true_iff (all (within n) l) (eqb (length l) (length (values agent)))).0 listed in
      let (reached, whole) = (and-eq-true_iff (eqb (least_bundle n (values agent) l) share) (eqb (n * share) (total (values agent)))).0 worth in
      maximin_share-of-total n (values agent) (omega arith) share l (each_within n l in-bundles) (eqb-true _ _ each) (eqb-true _ _ reached) (eqb-true _ _ whole)
