use mathlib.Core.Path.{◌≡◌, sym, ap, ◌∙◌}
use mathlib.Core.List.{List}
use Prim.Native.Nat.{ℕ, ◌+◌, ◌-◌, ◌<◌}
use native.Mathlib.Omega.{arith}
use borrow.Author.Tests.{lt-ltb}
use lib.ListN.{get_or, take, length-take}
use lib.Seq.{get_or-take}
use Rattle.lists.proofs.sums.Sums.{sum_of-next, sum_of-prefix}
use Rattle.lists.proofs.places.Places.{nth-next}
use Rattle.reach.specs.Loads.{load_of}
use Rattle.reach.specs.Pruning.{needed, needed_by}
use Rattle.reach.proofs.pruning.Needed.{needed-none, needed-div_ceil}
use Rattle.reach.proofs.pruning.needs_more.Goals as goal
use Rattle.reach.proofs.pruning.needs_more.Goals.{then-load-goal+else-left-due, else-load-goal}

-- what bundle i + 1 needs, as its load is read
need-read : (goal most : ℕ) (loads : List ℕ) (bundles i : ℕ) → i < bundles → needed most (goal - get_or (take bundles loads) i 0) ≡ needed most (goal - load_of loads (i + 1))
need-read goal most loads bundles i inside = ap (λ load. needed most (goal - load)) (get_or-take bundles loads i 0 inside ∙ sym (nth-next 0 loads i))

pub returns-then-left-due : goal.returns-then-left-due
returns-then-left-due c =
    let a = c.args in
    let i = c.loop-load.load-index in
    let w : ℕ → ℕ = λ k. needed a.most (a.goal - load_of a.loads.now k) in
    let lack = a.goal - get_or (take a.bundles a.loads.now) i 0 in
    let inside : i < a.bundles = omega (arith, length-take a.bundles a.loads.now, c.loop-load-test.true) in
    sym (lt-ltb a.count (needed_by a.goal (load_of a.loads.now) a.bundles a.most)
    (omega (arith, c.div_ceil-due.ensures, needed-div_ceil a.most c.requires.1 lack, need-read a.goal a.most a.loads.now a.bundles i inside, sum_of-next w i, sum_of-prefix w (i + 1) a.bundles (omega arith))))

pub loop-load-preserved : goal.loop-load-preserved
loop-load-preserved c =
    let a = c.args in
    let i = c.loop-load.load-index in
    let w : ℕ → ℕ = λ k. needed a.most (a.goal - load_of a.loads.now k) in
    let lack = a.goal - get_or (take a.bundles a.loads.now) i 0 in
    let inside : i < a.bundles = omega (arith, length-take a.bundles a.loads.now, c.loop-load-test.true) in
    let read = need-read a.goal a.most a.loads.now a.bundles i inside in
    elim c.if-load-goal.branch [
      | then-load-goal+else-left-due b ↦ omega (arith, b.left-is, b.div_ceil-due.ensures, needed-div_ceil a.most c.requires.1 lack, read, sum_of-next w i)
      | else-load-goal b ↦ omega (arith, b.left-is, needed-none a.most lack (omega (arith, b.if-load-goal.false)), read, sum_of-next w i)
    ]
