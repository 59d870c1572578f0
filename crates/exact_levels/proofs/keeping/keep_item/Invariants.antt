-- The loop's invariant: the blocks below `from` are done.
use mathlib.Core.Path.{◌≡◌}
use mathlib.Core.List.{List}
use Prim.Native.Nat.{ℕ, ◌*◌, ◌≤◌, ◌<◌}
use lib.ListN.{length, get_or}
use Rattle.exact_levels.specs.internal.Keeping.{with_item}
use Rattle.exact_levels.proofs.keeping.keep_item.Given as goal

pub record Passing (old : List ℕ) (bit mark sets : ℕ) (kept : List ℕ) (from : ℕ) : Type 0 where
  pub block : ℕ
  pub at : from ≡ block * (2 * bit)
  pub within : from ≤ sets
  pub places : length kept ≡ length old
  pub done : (s : ℕ) → s < from → get_or kept s 0 ≡ with_item old bit mark s
  pub same : (s : ℕ) → from ≤ s → get_or kept s 0 ≡ get_or old s 0

abbrev pub invariant-loop-from : goal.invariant-loop-from
invariant-loop-from l = Passing l.initial.kept l.bit l.mark l.sets l.kept l.from
