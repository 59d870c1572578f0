use mathlib.Core.Path.{◌≡◌, ap, ◌∙◌}
use native.Mathlib.Omega.{arith}
use Rattle.maximin.proofs.Laws.{maximin_share-le-mean}
use Rattle.cut.proofs.Whole.{best_least, best_partition, found_with, finding-best}
use Rattle.cut.proofs.Stored.{stored_stopped, stored-stopped}
use Rattle.cut.proofs.Request.cut_stopped.Goals as goal
use Rattle.cut.proofs.Request.cut_stopped.Goals.{After-find-end}

-- what the walk finds
walk-finds : (c : After-find-end) → let a = c.args.self.now in
    c.find-end.result ≡ found_with a.bundles a.values.now a.allowance (best_least a.bundles a.values.now a.allowance) (best_partition a.bundles a.values.now a.allowance)
walk-finds c =
    let allowed = c.args.self.now.allowed in
    c.find-end.ensures
    ∙ finding-best c.args.self.now.bundles c.args.self.now.values.now c.args.self.now.allowance _ 0 allowed
    (omega (arith, c.mean-ceiling.ensures, maximin_share-le-mean c.args.self.now.bundles c.args.self.now.values.now allowed.some_bundles)) (omega arith)

pub overflow_sub-result : goal.overflow_sub-result
overflow_sub-result c = omega (arith, ap (λ found. found.best.goal) (walk-finds (goal.at.overflow_sub-result c).After-find-end))

pub overflow_sub-result-2 : goal.overflow_sub-result-2
overflow_sub-result-2 c = omega (arith, ap (λ found. found.allowance) (walk-finds (goal.at.overflow_sub-result-2 c).After-find-end))

pub returns : goal.returns
returns c =
    let a = c.args.self.now in
    ap (stored_stopped a.bundles a.values.now a.allowance) (walk-finds (goal.at.returns c).After-find-end)
    ∙ stored-stopped a.bundles a.values.now a.allowance c.requires
