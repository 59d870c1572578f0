-- The loop's invariant: `light` is one of the bundles passed.
use Prim.Native.Nat.{◌<◌}
use Rattle.cut.proofs.sharing.lightest.Given as goal

abbrev pub invariant-loop-i : goal.invariant-loop-i
invariant-loop-i l = l.light < l.i
