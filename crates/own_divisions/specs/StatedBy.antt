-- What a division states as the box prints it (document 01, "The printed division"). Assumes nothing: these are definitions.
use Rattle.std.specs.Prelude.{[], map, ℕ}
use Rattle.lists.specs.Lists.{range, nth}
use Rattle.sheet.specs.Contents.{Contents}
use Rattle.bundling.specs.Bundles.{all_bundles}
use Rattle.rounds.specs.Division.{Division}
use Rattle.division_reading.specs.Stated.{StatedLine, Stated}

-- "A yard line has the pieces it gets, their worth by its marks, its share, and its cut of all pieces into N piles"
abbrev pub stated_line_by : Contents → Division → ℕ → StatedLine
stated_line_by sheet d i =
    record {
      bundle = nth [] d.bundles i;
      worth = nth 0 d.worths i;
      share = nth 0 d.shares i;
      cut = all_bundles sheet.agents sheet.items (nth [] d.cuts i);
    }

-- "The head repeats the counts and adds the grade", and there is a line for each yard
abbrev pub stated_by : Contents → Division → Stated
stated_by sheet d = record { grade = d.grade; lines = map (stated_line_by sheet d) (range 1 sheet.agents) }
