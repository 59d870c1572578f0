-- A division as the code has it, its lines in six places, and what it states. Assumes nothing: these are definitions.
use Rattle.std.specs.Prelude.{Bool, ◌&&◌, List, [], map, ℕ, eqb, leb, take, Option, None, Some}
use Rattle.lists.specs.Lists.{range, nth, all}
use Rattle.lists.specs.Sums.{least_of}
use Rattle.sheet.specs.Sets.{items_of}
use Rattle.sheet.specs.Valuations.{value}
use Rattle.sheet.specs.Tables.{valuation_of, all_values}
use Rattle.division_reading.specs.Stated.{StatedLine, Stated}
use Rattle.division_reading.specs.declared.StatedLine as line
use Rattle.division_reading.specs.declared.Stated as stated

-- what stands beyond the last place
abbrev pub no_line : line.StatedLine
no_line = record { bundle = 0; worth = 0; share = 0; cut = [] }

-- what a line states of n agents: its sets as lists of items
abbrev pub stated_line : ℕ → line.StatedLine → StatedLine
stated_line n l = record { bundle = items_of l.bundle; worth = l.worth; share = l.share; cut = map items_of (take n l.cut) }

-- what the first n lines state, with the grade
abbrev pub stated_of : ℕ → ℕ → List line.StatedLine → Stated
stated_of n grade lines = record { grade = grade; lines = map (stated_line n) (take n lines) }

-- what is stated of n agents, where it was read
abbrev pub stated_in : ℕ → Option stated.Stated → Option Stated
stated_in n None = None
stated_in n (Some d) = Some (stated_of n d.grade d.lines)

module _ (n : ℕ) (test : List (List ℕ) → Bool) where
  -- whether the bundles of the cut pass a test, in each line
  abbrev pub cuts_pass : List line.StatedLine → Bool
  cuts_pass lines = all (λ i. test (map items_of (take n (nth no_line lines i).cut))) (range 1 n)

  -- whether the bundles, which stand as sets, pass it, and those of each cut
  abbrev pub sets_and_cuts : List ℕ → List line.StatedLine → Bool
  sets_and_cuts sets lines = test (map items_of (take n sets)) && cuts_pass lines

module _ (n m : ℕ) where
  -- the value of the least bundle of a cut, by a valuation
  abbrev pub least_to : List ℕ → List (List ℕ) → ℕ
  least_to row cut = least_of (λ c. value (all_values m row) (nth [] cut c)) n

  -- whether the line of an agent with this valuation, this share and a bundle of this worth is true
  abbrev pub line_true_to : (row : List ℕ) (share worth : ℕ) (l : StatedLine) → Bool
  line_true_to row share worth l = eqb l.worth worth && eqb l.share share && leb share (least_to row l.cut)

  -- whether all lines are true, by the agents' valuations, their shares and the worths of their bundles
  abbrev pub lines_true : (table : List (List ℕ)) (shares worths : List ℕ) (lines : List line.StatedLine) → Bool
  lines_true table shares worths lines = all (λ i. line_true_to (valuation_of table i) (nth 0 shares i) (nth 0 worths i) (stated_line n (nth no_line lines i))) (range 1 n)

  -- whether all lines are true, and the grade that is stated is the grade
  abbrev pub figures_true_by : (table : List (List ℕ)) (shares worths : List ℕ) (lines : List line.StatedLine) (grade stated : ℕ) → Bool
  figures_true_by table shares worths lines grade stated = lines_true table shares worths lines && eqb stated grade
