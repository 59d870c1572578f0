-- The loop's invariant: the items still to be read, behind those of the set, are the bundle.
use mathlib.Core.Path.{◌≡◌}
use Prim.Native.Nat.{◌-◌, ◌^◌, ◌≤◌, ◌<◌}
use Rattle.tokeniser.specs.Places.{tokens_at}
use Rattle.tokeniser.proofs.Behind.{Reached}
use Rattle.bundle_reading.specs.Bundles.{rising_items}
use Rattle.bundle_reading.specs.Results.{bundle_from}
use Rattle.bundle_reading.proofs.ItemsInTurn.{behind_set}
use Rattle.bundle_reading.proofs.rising_items.Given as goal

abbrev pub invariant-loop-number : goal.invariant-loop-number
invariant-loop-number l = (l.above ≤ l.items) × (l.set < 2 ^ l.above) × Reached l.s l.initial.here l.here
    × (bundle_from l.s l.initial.here (rising_items l.items 0 (tokens_at l.s l.initial.here)) ≡ behind_set l.set l.s l.initial.here (rising_items l.items l.above (tokens_at l.s l.here)))

abbrev pub decreases-loop-number : goal.decreases-loop-number
decreases-loop-number l = l.items - l.above
