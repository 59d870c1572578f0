-- The loop's invariant: the first i sets are filled in.
use mathlib.Core.List.{List}
use Prim.Native.Nat.{ℕ}
use Rattle.lists.proofs.places.Filling.{Filled}
use Rattle.sheet.specs.Limits.{most_agents}
use Rattle.sheet.specs.Sets.{items_of, set_of}
use Rattle.bundling.specs.Bundles.{bundle}
use Rattle.bundling.proofs.bundle_sets.Given as goal

-- the set of one bundle
abbrev set_at : ℕ → List ℕ → ℕ → ℕ
set_at set partition c = set_of (bundle (items_of set) partition c)

abbrev pub invariant-loop-i : goal.invariant-loop-i
invariant-loop-i l = Filled (set_at l.set l.partition) most_agents l.sets l.i
