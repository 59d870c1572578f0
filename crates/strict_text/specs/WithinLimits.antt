-- The counts and tables of which a sheet can have the marks (document 01, "Parts of the box"). Assumes nothing: these are definitions.
use Rattle.std.specs.Prelude.{◌≡◌, true}
use Rattle.lists.specs.Lists.{all}
use Rattle.sheet.specs.Limits.{greatest_mark, CountsWithin}
use Rattle.sheet.specs.Contents.{Contents}
use Rattle.sheet_lines.specs.Marks.{allowed_row}
use Rattle.sheet_lines.specs.Kept.{table_of}
use Rattle.strict_text.specs.StrictText.{lines_of}

pub record WithinLimits (c : Contents) : Type 0 where
  -- "1 to 6 yards and 1 to 12 pieces"
  pub counts : CountsWithin c.agents c.items
  -- "six rows of twelve places", blank beyond the yards and pieces in use
  pub blank_beyond : c.table ≡ table_of (lines_of c).rows
  -- "A mark is a whole number from 0 to" the greatest
  pub marks_allowed : all (allowed_row greatest_mark) (lines_of c).rows ≡ true
