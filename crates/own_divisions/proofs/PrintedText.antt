-- A division that the box prints, without its cutters line, is the text of what it states. Assumes nothing.
use mathlib.Core.Path.{◌≡◌, sym, ap}
use Rattle.lists.specs.Lists.{range}
use Rattle.lists.proofs.ranges.Ranges.{nth-map-range}
use Rattle.lists.proofs.members.FlatMap.{flat_map-cong}
use Rattle.sheet.specs.Contents.{Contents}
use Rattle.rounds.specs.Division.{Division}
use Rattle.printing.specs.Printed.{all_lines, agent_line, printed_without_cutters}
use Rattle.stated_truth.specs.Truth.{none_stated, line_of}
use Rattle.stated_text.specs.StatedText.{line_text, stated_text}
use Rattle.own_divisions.specs.StatedBy.{stated_line_by, stated_by}

pub printed-is-stated : (sheet : Contents) (d : Division) → printed_without_cutters sheet d ≡ stated_text sheet.agents sheet.items (stated_by sheet d)
unfolding printed_without_cutters stated_text all_lines
printed-is-stated sheet d =
    rw (flat_map-cong (agent_line sheet d) (λ i. line_text i (line_of (stated_by sheet d) i)) (range 1 sheet.agents)
    (λ i in_use. ap (line_text i) (sym (nth-map-range (stated_line_by sheet d) none_stated sheet.agents in_use))))
