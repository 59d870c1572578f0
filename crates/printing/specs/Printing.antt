-- What printing a sheet's division into a lent buffer answers. Assumes nothing: these are definitions.
use Rattle.std.specs.Prelude.{List, ℕ, ◌+◌, ◌*◌}
use Rattle.sheet.specs.Limits.{most_agents, most_items, sum_digits}
use Rattle.sheet.specs.Contents.{Contents}
use Rattle.sheet.specs.Answers.{Answer, and_then}
use Rattle.writing.specs.Filled.{filling}
use Rattle.rounds.specs.Division as division
use Rattle.printing.specs.Printed.{printed}

-- "one that fills a lent buffer tries 10 last": the text of a sheet's division with an allowance, printed into a buffer of so many bytes
unfoldable pub printing : Contents → ℕ → ℕ → Answer (List ℕ)
printing sheet allowance room = and_then (division.answer sheet allowance) (λ d. filling room (printed sheet d))

-- the most bytes of the head of a table within the limits: (division (yards 6) (pieces 12) (grade 4)) and the line feed
abbrev pub longest_printed_head : ℕ
longest_printed_head = 43

-- the most bytes of a pile: a space and (pile), and at most three bytes for each piece
abbrev pub longest_pile : ℕ
longest_pile = 7 + 3 * most_items

-- the most bytes of a cut: a space and (cut), a space and () for each pile, and at most three bytes for each piece
abbrev pub longest_cut : ℕ
longest_cut = 6 + 3 * most_agents + 3 * most_items

-- the most bytes of a yard line: (yard 6 (worth ) (share )) and the line feed, the digits of two sums, a pile and a cut
abbrev pub longest_printed_yard : ℕ
longest_printed_yard = 27 + 2 * sum_digits + longest_pile + longest_cut

-- the most bytes of the cutters line: (cutters) and the line feed, and a space and a digit for each yard
abbrev pub longest_cutters : ℕ
longest_cutters = 10 + 2 * most_agents

-- a buffer of so many bytes is long enough for the division of every table within the limits (proofs/printed/Longest.antt): the head,
-- a line for each yard, the cutters, and (end) with the line feed
abbrev pub longest_printed : ℕ
longest_printed = longest_printed_head + most_agents * longest_printed_yard + longest_cutters + 6
