use mathlib.Core.Path.{◌≡◌, ap, ◌∙◌}
use Prim.Native.Nat.{◌≤◌}
use native.Mathlib.Nat.{div-le_self}
use native.Mathlib.Omega.{arith}
use lib.ListN.{length, take}
use Rattle.lists.specs.Sums.{total}
use Rattle.lists.proofs.members.Permuted.{total-perm}
use Rattle.sheet.specs.Limits.{most_items}
use Rattle.maximin.specs.Share.{maximin_share, maximin_partition}
use Rattle.maximin.proofs.Laws.{maximin_share-le-mean}
use Rattle.cut.proofs.sorting.Reordered.{reordered-all}
use Rattle.cut.proofs.Whole.{found_with}
use Rattle.cut.proofs.ShareFirst.{same-share, finding-after}
use Rattle.cut.proofs.Stored.{stored_share, stored-share}
use Rattle.cut.proofs.Request.cut_by_share.Goals as goal
use Rattle.cut.proofs.Request.cut_by_share.Goals.{After-deal-goal, After-find_after-end}

-- what the deal gives is no more than the share
deal-below : (c : After-deal-goal) → let a = c.args.self.now in c.deal-goal.result ≤ maximin_share a.bundles a.values.now
deal-below c =
    let a = c.args.self.now in
    let values = a.values.now in
    let same = reordered-all most_items values c.falling-sorted.result c.falling-sorted.ensures in
    omega (arith, c.deal-goal.ensures, same-share a.bundles (take (length values) c.falling-sorted.result) values a.allowance same c.args.self.now.allowed)

-- what the walks find: the mean is no less than the share, and what the deal gives is no more
walks-find : (c : After-find_after-end) → let a = c.args.self.now in
    c.deal-goal.result ≤ maximin_share a.bundles a.values.now
    → c.find_after-end.result ≡ found_with a.bundles a.values.now a.allowance (maximin_share a.bundles a.values.now) (maximin_partition a.bundles a.values.now)
walks-find c below =
    let a = c.args.self.now in
    let values = a.values.now in
    let same = reordered-all most_items values c.falling-sorted.result c.falling-sorted.ensures in
    let above : maximin_share a.bundles values ≤ c.mean-ceiling.result = omega (arith, c.mean-ceiling.ensures, maximin_share-le-mean a.bundles values c.args.self.now.allowed.some_bundles) in
    c.find_after-end.ensures
    ∙ finding-after a.bundles (take (length values) c.falling-sorted.result) values a.allowance same c.args.self.now.allowed _ _ c.requires above (omega arith) (omega (arith, below))

pub deal-goal-requires : goal.deal-goal-requires
deal-goal-requires c =
    let a = c.args.self.now.allowed in
    (omega (arith, total-perm (reordered-all most_items c.args.self.now.values.now c.falling-sorted.result c.falling-sorted.ensures), a.small), a.some_bundles, a.few_bundles)

pub overflow_add-goal : goal.overflow_add-goal
overflow_add-goal c =
    let values = c.args.self.now.values.now in
    let allowed = c.args.self.now.allowed in
    omega (arith, deal-below c, maximin_share-le-mean c.args.self.now.bundles values allowed.some_bundles, div-le_self (total values) c.args.self.now.bundles, allowed.small)

pub overflow_sub-result : goal.overflow_sub-result
overflow_sub-result c = omega (arith, ap (λ found. found.best.goal) (walks-find (goal.at.overflow_sub-result c).After-find_after-end (deal-below (goal.at.overflow_sub-result c).After-deal-goal)))

pub overflow_sub-result-2 : goal.overflow_sub-result-2
overflow_sub-result-2 c = omega (arith, ap (λ found. found.allowance) (walks-find (goal.at.overflow_sub-result-2 c).After-find_after-end (deal-below (goal.at.overflow_sub-result-2 c).After-deal-goal)))

pub returns : goal.returns
returns c =
    let a = c.args.self.now in
    ap (stored_share a.bundles a.values.now a.allowance) (walks-find (goal.at.returns c).After-find_after-end (deal-below (goal.at.returns c).After-deal-goal))
    ∙ stored-share a.bundles a.values.now a.allowance c.requires
