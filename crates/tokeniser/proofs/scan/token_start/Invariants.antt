-- The loop's invariant: what counts for nothing ends where that from here on does.
use mathlib.Core.Path.{◌≡◌}
use mathlib.Core.Bool.{false}
use Prim.Native.Nat.{◌≤◌, ◌+◌, ◌-◌}
use lib.ListN.{length, drop}
use Rattle.tokeniser.specs.NextToken.{blanks}
use Rattle.tokeniser.proofs.scan.token_start.Given as goal

abbrev pub invariant-loop-i : goal.invariant-loop-i
invariant-loop-i l = (l.i ≤ length l.s) × (l.at + blanks l.begun false (drop l.at l.s) ≡ l.i + blanks l.begun false (drop l.i l.s))

abbrev pub decreases-loop-i : goal.decreases-loop-i
decreases-loop-i l = length l.s - l.i
