-- The lines of a printed division (document 01, "The printed division"): so many agents (yards) and items (pieces).
-- Assumes nothing: these are definitions.
use mathlib.Core.List.{List, ◌++◌, flat_map}
use Rattle.std.specs.Prelude.{ℕ}
use Rattle.lists.specs.Lists.{range}
use Rattle.text.specs.Bytes.{bytes}
use Rattle.text.specs.Decimal.{spaced_numbers}
use Rattle.writing.specs.Fields.{field, group}

-- "The head repeats the counts and adds the grade"
unfoldable pub head_line : (agents items grade : ℕ) → List ℕ
head_line agents items grade = field "(division (yards " agents ++ field ") (pieces " items ++ field ") (grade " grade ++ bytes "))\n"

-- "the pieces it gets": "The pieces of a pile rise", "An empty pile prints `(pile)`"
unfoldable pub pile_group : List ℕ → List ℕ
pile_group pile = bytes " (pile" ++ spaced_numbers pile ++ bytes ")"

-- "their worth by its marks, its share"
unfoldable pub worth_and_share : ℕ → ℕ → List ℕ
worth_and_share worth share = field " (worth " worth ++ field ") (share " share ++ bytes ")"

-- a pile of a cut: "an empty pile in a cut prints `()`"
abbrev pub cut_pile : List ℕ → List ℕ
cut_pile pile = bytes " " ++ group pile

-- "its cut of all pieces into N piles": "a cut's piles stand in the order of their numbers"
unfoldable pub cut_group : List (List ℕ) → List ℕ
cut_group cut = bytes " (cut" ++ flat_map cut_pile cut ++ bytes ")"

-- "A yard line has the pieces it gets, their worth by its marks, its share, and its cut of all pieces into N piles"
unfoldable pub printed_yard : (agent : ℕ) (pile : List ℕ) (worth share : ℕ) (cut : List (List ℕ)) → List ℕ
printed_yard agent pile worth share cut = field "(yard " agent ++ pile_group pile ++ worth_and_share worth share ++ cut_group cut ++ bytes ")\n"

-- "The cutters line has the cutter of each round in turn"
unfoldable pub cutters_line : List ℕ → List ℕ
cutters_line cutters = bytes "(cutters" ++ spaced_numbers cutters ++ bytes ")\n"

-- "the last line is `(end)`, and every printed line ends in one line feed": the head, the line of each agent, the cutters line, which order 5
-- of document 02 leaves out, and the end
unfoldable pub all_lines : (agents items grade : ℕ) (line : ℕ → List ℕ) (cutters : List ℕ) → List ℕ
all_lines agents items grade line cutters = head_line agents items grade ++ flat_map line (range 1 agents) ++ cutters ++ bytes "(end)\n"
