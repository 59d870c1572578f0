-- The grade of every division of the box is the first test that it passes; no margin is below zero, so the grade is never 5. Assumes nothing.
use mathlib.Core.Path.{◌≡◌, sym, ◌∙◌}
use mathlib.Core.Bool.{true}
use Prim.Native.Nat.{ℕ, ◌≤◌}
use native.Mathlib.Omega.{arith}
use lib.Dec.{leb}
use borrow.Author.Tests.{leb-true}
use Rattle.sheet.specs.Limits.{CountsWithin}
use Rattle.sheet.specs.Contents.{Contents}
use Rattle.sheet.specs.Answers.{accepted}
use Rattle.sheet.specs.Allocations.{Allocates}
use Rattle.terms.specs.Terms.{terms_for}
use Rattle.margins.specs.Margins.{none_negative}
use Rattle.grades.specs.Scale.{passes}
use Rattle.grades.proofs.Scale.{passes-from-grade}
use Rattle.rounds.specs.Division.{Division, division_of, answer}
use Rattle.terms.proofs.Allowed.{terms_for-at-most-standard}
use Rattle.rounds.proofs.Allocation.{allocation-none_negative, allocation-allocates}
use Rattle.rounds.proofs.Answers.{answer-accepted}

-- the box's division of a sheet, with any marks
module _ (sheet : Contents) (allowance : ℕ) (d : Division) (divided : answer sheet allowance ≡ accepted d) where
  within : CountsWithin sheet.agents sheet.items
  within = (answer-accepted sheet allowance d divided).1

  -- each item is in one bundle
  pub division_allocates : Allocates sheet.agents sheet.items d.bundles
  unfolding division_of
  division_allocates = rw (answer-accepted sheet allowance d divided).0 (allocation-allocates sheet.agents sheet.items (terms_for sheet.agents) sheet.table (terms_for-at-most-standard sheet.agents) within.some)

  -- it passes the test for g exactly where its grade is at most g
  pub division-passes : (g : ℕ) → 1 ≤ g → passes sheet d.bundles g ≡ leb d.grade g
  unfolding division_of
  division-passes g some = passes-from-grade sheet d.bundles division_allocates g some ∙ rw (answer-accepted sheet allowance d divided).0

  -- "every margin to be zero or more"
  pub no-margin-negative : none_negative sheet.agents d.margins ≡ true
  unfolding division_of
  no-margin-negative = rw (answer-accepted sheet allowance d divided).0 (allocation-none_negative sheet.agents sheet.items (terms_for sheet.agents) sheet.table (terms_for-at-most-standard sheet.agents))

  passes-4 : passes sheet d.bundles 4 ≡ true
  unfolding division_of
  passes-4 = rw (answer-accepted sheet allowance d divided).0 (allocation-none_negative sheet.agents sheet.items (terms_for sheet.agents) sheet.table (terms_for-at-most-standard sheet.agents))

  -- demand 3 leaves no division of the box "the rest"
  pub never-graded-5 : d.grade ≤ 4
  never-graded-5 = leb-true d.grade 4 (sym (division-passes 4 (omega arith)) ∙ passes-4)
