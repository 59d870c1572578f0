-- The loop's invariant: the places from i on are filled, and `most` is the greatest of the values from i on.
use mathlib.Core.Path.{◌≡◌}
use lib.ListN.{length, drop}
use Rattle.sheet.specs.Limits.{most_items}
use Rattle.reach.specs.Pruning.{greatest_value, GreatestFrom}
use Rattle.walking.proofs.greatest_from_each.Given as goal

abbrev pub invariant-loop-i : goal.invariant-loop-i
invariant-loop-i l = record {
  places : length l.greatest ≡ most_items;
  most_is : l.most ≡ greatest_value (drop l.i l.values);
  filled : GreatestFrom l.i (drop l.i l.values) l.greatest;
}
