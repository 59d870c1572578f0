-- The proof of the cycle of calls {search}. The measure is the number of values still to be laid.
-- The loop's invariant: of what is handed on, one item more is laid, the loads are as they were, and the partition but for its place `at`;
-- `found` is the search once the bundles up to `bundle` are tried.
use mathlib.Core.Path.{◌≡◌}
use Prim.Native.Nat.{ℕ, ◌+◌}
use lib.ListN.{length, set}
use Rattle.walking.proofs.Steps.{walked_up_to}
use Rattle.walking.proofs.Walk.+search.Given as goal

abbrev pub decreases-search : goal.decreases-search
decreases-search l = length l.values.now

abbrev pub invariant-loop-bundle : goal.invariant-loop-bundle
invariant-loop-bundle l = record {
  next_item : l.next.at ≡ l.laid.at + 1;
  same_loads : l.next.loads ≡ l.laid.loads;
  same_places : (c : ℕ) → set l.next.partition l.laid.at c ≡ set l.laid.partition l.laid.at c;
  tried : l.found ≡ walked_up_to l.self.bundles l.laid.at l.laid.used l.laid.loads l.laid.partition l.self.ceiling l.initial.found l.value l.rest l.bundle;
}
