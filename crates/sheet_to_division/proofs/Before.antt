-- "Sheets accepted before divide as they did" (document 02, order 3): with any allowance and a buffer of any length a text accepted when a mark
-- went to 65,535 in five digits is answered as it would have been then. Assumes nothing.
use mathlib.Core.Path.{◌≡◌, sym, ap, ◌∙◌}
use mathlib.Core.List.{List}
use Prim.Native.Nat.{ℕ, ◌≤◌}
use Rattle.sheet.specs.Limits.{earlier_mark_limits}
use Rattle.sheet.specs.Answers.{accepted}
use Rattle.sheet.specs.Contents.{Contents}
use Rattle.reading.specs.Reading.{reading_by}
use Rattle.reading.proofs.WiderMarks.{accepted-before, answered-as-before}
use Rattle.shares.specs.Shares.{standard_allowance}
use Rattle.printing.specs.Printing.{longest_printed}
use Rattle.sheet_to_division.specs.DividedFrom.{with_division, divided_by, divided_from}
use Rattle.sheet_to_division.specs.PrintedDivision.{printed_into}
use Rattle.sheet_to_division.specs.ShareOut.{share_out, share_out_before}
use Rattle.sheet_to_division.proofs.Accepted.{no-sheet-lost}

module _ (text : List ℕ) (sheet : Contents) (read : reading_by earlier_mark_limits text ≡ accepted sheet) where
  pub accepted-before-divides-alike : (allowance : ℕ) → divided_from text allowance ≡ divided_by (reading_by earlier_mark_limits) text allowance
  unfolding divided_from
  accepted-before-divides-alike allowance = answered-as-before (with_division allowance) text sheet read

  pub accepted-before-answered-alike : (allowance room : ℕ) → share_out text allowance room ≡ share_out_before text allowance room
  unfolding share_out
  accepted-before-answered-alike allowance room = ap (printed_into room) (accepted-before-divides-alike allowance)

  -- and so with the program's allowance and buffers of other lengths, where both are long enough for every division
  pub accepted-before-printed-alike : (room room' : ℕ) → longest_printed ≤ room → longest_printed ≤ room'
      → share_out text standard_allowance room ≡ share_out_before text standard_allowance room'
  accepted-before-printed-alike room room' enough enough' =
      let now = accepted-before text sheet read in
      no-sheet-lost text sheet now room enough ∙ sym (no-sheet-lost text sheet now room' enough') ∙ accepted-before-answered-alike standard_allowance room'
