-- The loop's invariant: the list has the places so far.
use mathlib.Core.Path.{◌≡◌}
use lib.ListN.{take}
use Rattle.sheet.proofs.listing.CopyList.of.Given as goal

abbrev pub invariant-loop-entry : goal.invariant-loop-entry
invariant-loop-entry g l = l.list ≡ take l.entry-index l.entry-items
