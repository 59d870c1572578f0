-- The lines of a division by the places of its arrays. Assumes nothing.
use mathlib.Core.Path.{◌≡◌}
use mathlib.Core.List.{List, []}
use Prim.Native.Nat.{ℕ, ◌+◌}
use lib.ListN.{get_or}
use Rattle.lists.proofs.places.Places.{nth-next}
use Rattle.sheet.specs.Sets.{items_of}
use Rattle.bundling.specs.Bundles.{all_bundles}
use Rattle.printed_lines.specs.PrintedLines.{printed_yard}
use Rattle.printed_division.specs.OutcomeText.{outcome_line}

-- the line of agent i + 1 is made of what stands at place i
pub outcome_line-next : (n m : ℕ) (bundles worths shares : List ℕ) (cuts : List (List ℕ)) (i : ℕ)
    → outcome_line n m bundles worths shares cuts (i + 1) ≡ printed_yard (i + 1) (items_of (get_or bundles i 0)) (get_or worths i 0) (get_or shares i 0) (all_bundles n m (get_or cuts i []))
outcome_line-next n m bundles worths shares cuts i = rw (nth-next 0 bundles i, nth-next 0 worths i, nth-next 0 shares i, nth-next [] cuts i)
