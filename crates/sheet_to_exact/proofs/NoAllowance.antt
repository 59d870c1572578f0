-- "orders 4 and 5 have no allowance" (document 02, order 7): no text is ever refused with 14 by the search. Assumes nothing.
use mathlib.Core.Path.{◌≡◌}
use mathlib.Core.List.{List}
use Prim.Native.Nat.{ℕ}
use native.Mathlib.Omega.{arith}
use lib.Dec.{leb}
use lib.ListN.{length}
use Rattle.sheet.specs.Answers.{NeverRefused, refused}
use Rattle.sheet.proofs.Refusals.{never-accepted, never-require, never-and_then}
use Rattle.reading.specs.Reading.{reading}
use Rattle.reading.proofs.Refusals.{reading-refusals}
use Rattle.exact_division.specs.Search.{searching}
use Rattle.exact_division.proofs.Answers.{searching-refusals}
use Rattle.exact_printing.specs.ExactText.{exact_text}
use Rattle.exact_printing.specs.Printing.{printing_exact}
use Rattle.sheet_to_exact.specs.Showing.{exact_from}

module _ (text : List ℕ) (bundles : List (List ℕ)) (room : ℕ) where
  exact-refusals : NeverRefused 14 (exact_from text bundles room)
  unfolding exact_from printing_exact
  exact-refusals =
      never-and_then 14 (reading text) _ (reading-refusals 14 (omega arith) text) (λ sheet.
      never-and_then 14 (searching sheet) _ (searching-refusals sheet 14 (omega arith)) (λ exists.
      never-require 14 10 (leb (length (exact_text exists bundles)) room) _ (λ e. omega arith) (never-accepted 14 _)))

  pub exact-never-refused-14 : exact_from text bundles room ≡ refused 14 → ⊥
  exact-never-refused-14 is = exact-refusals.never is
