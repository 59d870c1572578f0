-- What the search says of the box's division of every sheet, by its grade, with any marks. Assumes nothing.
use mathlib.Core.Path.{◌≡◌, ap, ◌∙◌}
use mathlib.Core.Bool.{true, false}
use mathlib.Core.Logic.{⊎_elim}
use Prim.Native.Nat.{ℕ, ◌≤◌}
use native.Mathlib.Omega.{arith}
use borrow.Author.Tests.{le-leb}
use Rattle.lists.proofs.Cases.{lt-or-ge}
use Rattle.lists.proofs.ranges.RangeSublists.{range-sublist-rising}
use Rattle.sheet.specs.Limits.{CountsWithin}
use Rattle.sheet.specs.Answers.{accepted}
use Rattle.sheet.specs.Contents.{Contents}
use Rattle.terms.specs.Terms.{terms_for}
use Rattle.rounds.specs.Division.{Division, division_of, answer}
use Rattle.rounds.proofs.Allocation.{allocation-sublist}
use Rattle.rounds.proofs.Answers.{answer-accepted}
use Rattle.rounds.proofs.Graded.{division_allocates, division-passes, never-graded-5}
use Rattle.exact_division.specs.Exact.{ExactDivision}
use Rattle.exact_division.specs.Search.{searching}
use Rattle.exact_division.proofs.Existence.{exact-division-exists}
use Rattle.exact_division.proofs.Grades.{is_exact-passes}
use Rattle.exact_division.proofs.Answers.{searching-within-limits}
use Rattle.exact_division.proofs.Theorems.{none-no-exact-division}

-- the box's division of the sheet, with any allowance
module _ (sheet : Contents) (allowance : ℕ) (d : Division) (divided : answer sheet allowance ≡ accepted d) where
  within : CountsWithin sheet.agents sheet.items
  within = (answer-accepted sheet allowance d divided).1

  -- graded 1, 2 or 3 it is an exact division
  pub graded-exact : d.grade ≤ 3 → ExactDivision sheet d.bundles
  unfolding division_of
  graded-exact low =
      let terms = terms_for sheet.agents in
      let allocates = division_allocates sheet allowance d divided in
      record {
        allocates = allocates;
        items_rise =
            rw (answer-accepted sheet allowance d divided).0
            (λ bundle mb. range-sublist-rising sheet.items (allocation-sublist sheet.agents sheet.items terms sheet.table bundle mb));
        shares_reached = is_exact-passes sheet d.bundles allocates terms ∙ division-passes sheet allowance d divided 3 (omega arith) ∙ le-leb d.grade 3 low;
      }

  -- and the search does not say none
  pub graded-found : d.grade ≤ 3 → searching sheet ≡ accepted true
  graded-found low = searching-within-limits sheet within ∙ ap accepted (exact-division-exists sheet d.bundles (graded-exact low))

  -- where the search says none, the grade is 4: it is above 3 and never 5
  pub none-graded-4 : searching sheet ≡ accepted false → d.grade ≡ 4
  none-graded-4 none =
      ⊎_elim
      (λ lt. absurd (none-no-exact-division sheet none d.bundles (graded-exact (omega arith))))
      (λ ge. omega (arith, never-graded-5 sheet allowance d divided))
      (lt-or-ge d.grade 4)
