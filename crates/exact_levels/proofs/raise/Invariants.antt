-- The loop's invariant: the sets below `set` have their levels.
use mathlib.Core.Path.{◌≡◌}
use mathlib.Core.List.{List}
use Prim.Native.Nat.{ℕ, ◌≤◌, ◌<◌}
use lib.ListN.{length, get_or}
use Rattle.exact_levels.specs.internal.Keeping.{level_with}
use Rattle.exact_levels.proofs.raise.Given as goal

pub record Raising (share : ℕ) (old : List ℕ) (before : ℕ) (kept levels : List ℕ) (set : ℕ) : Type 0 where
  pub places : length levels ≡ length old
  pub done : (s : ℕ) → s < set → get_or levels s 0 ≡ level_with (get_or old s 0) before share (get_or kept s 0)
  pub same : (s : ℕ) → set ≤ s → get_or levels s 0 ≡ get_or old s 0

abbrev pub invariant-loop-set : goal.invariant-loop-set
invariant-loop-set l = Raising l.share l.initial.levels l.before l.kept l.levels l.set
