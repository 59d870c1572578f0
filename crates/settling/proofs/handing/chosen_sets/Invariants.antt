-- The loop's invariant: the sets of the bundles chosen so far are stored.
use mathlib.Core.Path.{◌≡◌}
use mathlib.Core.List.{List, map}
use Prim.Native.Nat.{ℕ}
use lib.ListN.{take}
use Rattle.lists.specs.Lists.{nth, padded}
use Rattle.sheet.specs.Limits.{most_agents}
use Rattle.settling.proofs.handing.chosen_sets.Given as goal

-- the sets of the first i bundles chosen, 0 after the last
abbrev pub stored_up_to : List ℕ → List ℕ → ℕ → List ℕ
stored_up_to sets chosen i = padded most_agents 0 (map (nth 0 sets) (take i chosen))

abbrev pub invariant-loop-i : goal.invariant-loop-i
invariant-loop-i l = l.handed ≡ stored_up_to l.sets l.chosen l.i
