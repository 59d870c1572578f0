-- The loop's invariant: the agents from agent i + 1 on have their bundles, and the others can be
-- served from what is left.
use Prim.Native.Nat.{◌-◌, ◌≤◌}
use Rattle.exact_search.proofs.bundles.Handing.{Handing}
use Rattle.exact_search.proofs.handing.hand_out.Given as goal

abbrev pub invariant-loop-i : goal.invariant-loop-i
invariant-loop-i l = (1 ≤ l.i) × Handing l.contents.table l.shares l.contents.agents l.all l.bundles l.left (l.i - 1)
