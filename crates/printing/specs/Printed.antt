-- The printed text of a division (document 01, "The printed division"): so many agents (yards) and items (pieces). Its lines are defined in
-- `printed_lines`. Assumes nothing: these are definitions.
use Rattle.std.specs.Prelude.{List, [], ℕ}
use Rattle.lists.specs.Lists.{nth}
use Rattle.sheet.specs.Contents.{Contents}
use Rattle.bundling.specs.Bundles.{all_bundles}
use Rattle.rounds.specs.Division.{Division}
unfoldable pub use Rattle.printed_lines.specs.PrintedLines.{head_line, pile_group, worth_and_share, cut_group, printed_yard, cutters_line, all_lines}

-- the line of agent i: its bundle, the worth of that, which is by its own marks (proofs/printed/Worths.antt), its share, and its cut of all
-- items into as many bundles as there are agents
abbrev pub agent_line : Contents → Division → ℕ → List ℕ
agent_line sheet d i =
    printed_yard i (nth [] d.bundles i) (nth 0 d.worths i) (nth 0 d.shares i) (all_bundles sheet.agents sheet.items (nth [] d.cuts i))

-- the printed division of a sheet
unfoldable pub printed : Contents → Division → List ℕ
printed sheet d = all_lines sheet.agents sheet.items d.grade (agent_line sheet d) (cutters_line d.cutters)

-- document 02, order 5: "a division as the box prints it, but without the cutters line"
unfoldable pub printed_without_cutters : Contents → Division → List ℕ
printed_without_cutters sheet d = all_lines sheet.agents sheet.items d.grade (agent_line sheet d) []
