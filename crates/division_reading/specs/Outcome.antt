-- How the code's result stands for what is read of a division: bundles as 16-bit sets, lines and cuts in six places. Assumes nothing:
-- these are definitions.
use Rattle.std.specs.Prelude.{List, map, ℕ, replicate, Option, option_map}
use Rattle.lists.specs.Lists.{padded, zeros}
use Rattle.sheet.specs.Limits.{most_agents}
use Rattle.sheet.specs.Sets.{set_of}
use Rattle.division_reading.specs.Stated.{StatedLine, Stated}
use Rattle.division_reading.specs.declared.StatedLine as line
use Rattle.division_reading.specs.declared.Stated as stated

-- the bundles of a cut as sets
abbrev pub cut_sets : List (List ℕ) → List ℕ
cut_sets cut = padded most_agents 0 (map set_of cut)

abbrev pub kept_line : StatedLine → line.StatedLine
kept_line l = record { bundle = set_of l.bundle; worth = l.worth; share = l.share; cut = cut_sets l.cut }

-- a line that is not in use
abbrev pub blank_line : line.StatedLine
blank_line = record { bundle = 0; worth = 0; share = 0; cut = zeros most_agents }

abbrev pub blank_lines : List line.StatedLine
blank_lines = replicate most_agents blank_line

-- what the lines state, in their places
abbrev pub kept_lines : List StatedLine → List line.StatedLine
kept_lines lines = padded most_agents blank_line (map kept_line lines)

-- all that a division states
abbrev pub kept_division : Stated → stated.Stated
kept_division d = record { grade = d.grade; lines = kept_lines d.lines }

-- nothing is read, or all that the division states
abbrev pub kept : Option Stated → Option stated.Stated
kept o = option_map kept_division o
