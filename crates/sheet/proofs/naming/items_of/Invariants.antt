-- The loop's invariant: the items up to i of the set are found.
use mathlib.Core.Path.{◌≡◌}
use Rattle.sheet.proofs.sets.Items.{items_up_to}
use Rattle.sheet.proofs.naming.items_of.Given as goal

abbrev pub invariant-loop-i : goal.invariant-loop-i
invariant-loop-i l = l.items ≡ items_up_to l.set l.i
