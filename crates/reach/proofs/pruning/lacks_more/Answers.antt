use mathlib.Core.Path.{sym}
use Prim.Native.Nat.{ℕ, ◌+◌, ◌-◌, min}
use native.Mathlib.Omega.{arith}
use borrow.Author.Tests.{lt-ltb}
use lib.Seq.{get_or-take}
use Rattle.lists.proofs.sums.Sums.{sum_of-next, sum_of-prefix}
use Rattle.reach.specs.Loads.{load_of}
use Rattle.reach.specs.Pruning.{demand}
use Rattle.lists.proofs.places.Places.{nth-next}
use Rattle.reach.proofs.pruning.lacks_more.Goals as goal

pub returns-then-left-lack : goal.returns-then-left-lack
returns-then-left-lack c =
    let a = c.args in
    let i = c.loop-load.load-index in
    let w : ℕ → ℕ = λ k. min (a.goal - load_of a.loads.now k) a.most in
    sym (lt-ltb a.amount (demand a.goal (load_of a.loads.now) a.bundles a.most)
    (omega (arith, sum_of-next w i, sum_of-prefix w (i + 1) a.bundles (omega arith), nth-next 0 a.loads.now i, get_or-take a.bundles a.loads.now i 0 (omega arith), c.min-lack.ensures)))
