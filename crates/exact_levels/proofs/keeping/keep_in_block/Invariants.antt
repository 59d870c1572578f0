-- The loop's invariant: the first i sets of the second half are done.
use mathlib.Core.Path.{◌≡◌}
use mathlib.Core.List.{List}
use Prim.Native.Nat.{ℕ, ◌+◌, ◌≤◌, ◌<◌, max}
use lib.ListN.{length, get_or}
use Rattle.exact_levels.proofs.keeping.keep_in_block.Given as goal

pub record Keeping (old : List ℕ) (from bit mark : ℕ) (kept : List ℕ) (i : ℕ) : Type 0 where
  pub places : length kept ≡ length old
  pub raised : (j : ℕ) → j < i → get_or kept (from + bit + j) 0 ≡ max (get_or old (from + bit + j) 0) (get_or old (from + j) 0 + mark)
  pub before : (s : ℕ) → s < from + bit → get_or kept s 0 ≡ get_or old s 0
  pub behind : (s : ℕ) → from + bit + i ≤ s → get_or kept s 0 ≡ get_or old s 0

abbrev pub invariant-loop-i : goal.invariant-loop-i
invariant-loop-i l = Keeping l.initial.kept l.from l.bit l.mark l.kept l.i
