-- Every accepted text is divided, with an allowance that is enough, and printed into a buffer that is long enough. Assumes nothing.
use mathlib.Core.Path.{◌≡◌, ap, ◌∙◌}
use mathlib.Core.List.{List}
use Prim.Native.Nat.{ℕ, ◌≤◌}
use Rattle.sheet.specs.Answers.{accepted, and_then}
use Rattle.sheet.specs.Contents.{Contents}
use Rattle.reading.specs.Reading.{reading}
use Rattle.reading.proofs.Accepted.{accepted-text, accepted-carried, accepted-counts}
use Rattle.reading.proofs.SmallMarks.{table-small}
use Rattle.growth.specs.Growth.{growths}
use Rattle.shares.specs.Shares.{standard_allowance}
use Rattle.shares.proofs.Allowance.{standard_allowance-enough}
use Rattle.rounds.specs.Division.{division_by_rounds}
use Rattle.rounds.proofs.Answers.{answer-within-limits}
use Rattle.printing.specs.Printing.{longest_printed, printing}
use Rattle.printing.proofs.printed.Longest.{printing-within-limits}
use Rattle.sheet_to_division.specs.DividedFrom.{with_division, divided_from}
use Rattle.sheet_to_division.specs.PrintedDivision.{printed_division}
use Rattle.sheet_to_division.specs.ShareOut.{share_out}
use Rattle.sheet_to_division.proofs.ByPrinting.{share_out-by-printing}

module _ (s : List ℕ) (sheet : Contents) (read : reading s ≡ accepted sheet) where
  -- an accepted text whose growth partitions do not outnumber the allowance gets its division
  pub accepted-divided : (allowance : ℕ) → growths sheet.agents sheet.items ≤ allowance → divided_from s allowance ≡ accepted (sheet, division_by_rounds sheet)
  unfolding divided_from
  accepted-divided allowance allowed =
      ap (λ a. and_then a (with_division allowance)) read
      ∙ ap (λ a. and_then a (λ d. accepted (sheet, d))) (answer-within-limits sheet allowance (accepted-counts s sheet read) allowed)

  -- printed, with a buffer of `longest_printed` bytes
  pub accepted-printed : (allowance room : ℕ) → growths sheet.agents sheet.items ≤ allowance → longest_printed ≤ room
      → share_out s allowance room ≡ accepted (printed_division sheet)
  accepted-printed allowance room allowed enough =
      let told = accepted-carried s sheet read in
      share_out-by-printing allowance room s
      ∙ ap (λ a. and_then a (λ c. printing c allowance room)) read
      ∙ printing-within-limits sheet allowance room
      (accepted-counts s sheet read)
      (table-small (accepted-text s sheet read).lines.rows sheet.table told.table_is told.marks_allowed) allowed enough

  -- "The dividing program allows 4,000,000, so no sheet is lost" (document 02, order 7): every accepted text gets its division
  pub every-sheet-divided : divided_from s standard_allowance ≡ accepted (sheet, division_by_rounds sheet)
  every-sheet-divided = accepted-divided standard_allowance (standard_allowance-enough sheet.agents sheet.items (accepted-counts s sheet read))

  -- and it is printed
  pub no-sheet-lost : (room : ℕ) → longest_printed ≤ room → share_out s standard_allowance room ≡ accepted (printed_division sheet)
  no-sheet-lost room = accepted-printed standard_allowance room (standard_allowance-enough sheet.agents sheet.items (accepted-counts s sheet read))
