-- The text of a division as the code has it, in arrays: sets for bundles, partitions in twelve places, 0 after the last cutter.
-- Assumes nothing: these are definitions.
use Rattle.std.specs.Prelude.{List, [], ℕ}
use Rattle.lists.specs.Lists.{nth}
use Rattle.sheet.specs.Sets.{items_of}
use Rattle.bundling.specs.Bundles.{all_bundles}
use Rattle.division.specs.declared.Division.{Division}
use Rattle.printed_lines.specs.BeforeZero.{before_zero}
use Rattle.printed_lines.specs.PrintedLines.{printed_yard, cutters_line, all_lines}

-- the line of agent i
abbrev pub outcome_line : (agents items : ℕ) (bundles worths shares : List ℕ) (cuts : List (List ℕ)) (i : ℕ) → List ℕ
outcome_line agents items bundles worths shares cuts i =
    printed_yard i (items_of (nth 0 bundles i)) (nth 0 worths i) (nth 0 shares i) (all_bundles agents items (nth [] cuts i))

-- the whole text
unfoldable pub outcome_text : ℕ → ℕ → Division → List ℕ
outcome_text agents items d =
    all_lines agents items d.grade (outcome_line agents items d.bundles d.worths d.shares d.cuts) (cutters_line (before_zero d.cutters))
