-- When an item is wasted on a bundle. Assumes nothing.
use mathlib.Core.Path.{◌≡◌}
use mathlib.Core.Bool.{true, and-eq-true_iff}
use Prim.Native.Nat.{ℕ, ◌≤◌, ◌<◌}
use lib.Dec.{leb, ltb}
use borrow.Author.Tests.{leb-true, ltb-true}
use Rattle.walk_steps.specs.Branches.{is_wasted}

pub wasted-bounds : (goal load bundle used : ℕ) → is_wasted goal load bundle used ≡ true → (1 ≤ bundle) × (bundle < used) × (goal ≤ load)
wasted-bounds goal load bundle used e =
    let (later, rest) = (and-eq-true_iff (leb 1 bundle) _).0 e in
    let (in_use, has) = (and-eq-true_iff (ltb bundle used) (leb goal load)).0 rest in
    (leb-true 1 bundle later, ltb-true bundle used in_use, leb-true goal load has)
