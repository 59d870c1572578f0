-- The text of what a division states: "a division as the box prints it, but without the cutters line" (document 02, order 5), of the lines that
-- the box prints. Assumes nothing: these are definitions.
use Rattle.std.specs.Prelude.{List, [], ℕ}
use Rattle.printed_lines.specs.PrintedLines.{printed_yard, all_lines}
use Rattle.division_reading.specs.Stated.{StatedLine, Stated}
use Rattle.stated_truth.specs.Truth.{line_of}

-- the line of agent (yard) i
abbrev pub line_text : ℕ → StatedLine → List ℕ
line_text i l = printed_yard i l.bundle l.worth l.share l.cut

-- so many agents (yards) and items (pieces): the head, a line for each agent, and no cutters line before the end
unfoldable pub stated_text : ℕ → ℕ → Stated → List ℕ
stated_text agents items d = all_lines agents items d.grade (λ i. line_text i (line_of d i)) []
