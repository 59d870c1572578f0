-- The loop's invariant: the values of the items so far, which sum to no more than as many bounds.
use mathlib.Core.Path.{◌≡◌}
use mathlib.Core.List.{map}
use Prim.Native.Nat.{◌*◌, ◌≤◌}
use lib.ListN.{take}
use Rattle.lists.specs.Sums.{total}
use Rattle.sheet.specs.Limits.{value_bound}
use Rattle.sheet.specs.Valuations.{item_value}
use Rattle.sheet.proofs.valuing.values_of.Given as goal

abbrev pub invariant-loop-item : goal.invariant-loop-item
invariant-loop-item l =
    record {
      values : l.values ≡ map (item_value l.valuation) (take l.item-index l.item-items);
      bound : total l.values ≤ value_bound * l.item-index;
    }
