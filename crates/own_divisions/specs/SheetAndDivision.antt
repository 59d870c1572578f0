-- The text of a sheet and of the box's division of it, as it is judged. Assumes nothing: these are definitions.
use Rattle.std.specs.Prelude.{List, ◌++◌, ℕ}
use Rattle.sheet.specs.Contents.{Contents}
use Rattle.strict_text.specs.StrictText.{strict_text}
use Rattle.rounds.specs.Division.{division_by_rounds}
use Rattle.printing.specs.Printed.{printed_without_cutters}

-- "Behind its strict sheet and without its cutters line, a division the box prints" (document 02, order 5)
abbrev pub sheet_and_division : Contents → List ℕ
sheet_and_division sheet = strict_text sheet ++ printed_without_cutters sheet (division_by_rounds sheet)
