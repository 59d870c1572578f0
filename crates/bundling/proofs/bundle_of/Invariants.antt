-- The loop's invariant: what is found and what the rest holds make up the bundle, and there is room for the rest.
use mathlib.Core.Path.{◌≡◌}
use mathlib.Core.List.{◌++◌}
use Prim.Native.Nat.{◌+◌, ◌≤◌}
use lib.ListN.{length}
use Rattle.sheet.specs.Limits.{set_bits}
use Rattle.sheet.specs.Sets.{items_of}
use Rattle.bundling.specs.Bundles.{bundle}
use Rattle.bundling.proofs.bundle_of.Given as goal

abbrev pub invariant-loop-item : goal.invariant-loop-item
invariant-loop-item l =
    record {
      found : l.bundle ++ bundle l.item-iterator.a.rest.now l.item-iterator.b.rest.now l.number ≡ bundle (items_of l.set) l.fn.partition l.number;
      room : length l.bundle + length l.item-iterator.a.rest.now ≤ set_bits;
    }
