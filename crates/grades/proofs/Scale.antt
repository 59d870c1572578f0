-- The grades are a scale: what passes a test passes all those after it, and its grade is the first. For every sheet, with any marks, and
-- every allocation of its items. Assumes nothing.
use mathlib.Core.Path.{◌≡◌, refl, sym, ap, ◌∙◌}
use mathlib.Core.Bool.{Bool, true, false}
use mathlib.Core.Logic.{⊎_elim}
use mathlib.Core.List.{List, [], ◌∷◌, map}
use Prim.Native.Nat.{ℕ, ◌-◌, ◌≤◌}
use native.Mathlib.Omega.{arith}
use lib.Dec.{leb}
use lib.ListN.{get_or-eq_default}
use borrow.Author.Tests.{le-leb, leb-true}
use Rattle.lists.specs.Lists.{range, nth}
use Rattle.lists.proofs.Cases.{lt-or-ge}
use Rattle.lists.proofs.ranges.Ranges.{in-range, nth-map-range}
use Rattle.sheet.specs.Contents.{Contents, valuations_of}
use Rattle.sheet.specs.Allocations.{Allocates}
use Rattle.shares.specs.Shares.{shares_of}
use Rattle.terms.specs.Terms.{terms_for}
use Rattle.terms.specs.Allowed.{AtMostStandard}
use Rattle.terms.specs.declared.Terms.{Terms}
use Rattle.terms.proofs.Allowed.{at-most-whole, terms_for-at-most-standard}
use Rattle.margins.specs.Margins.{none_negative}
use Rattle.grades.specs.Grade.{envy_free, proportional, maximin_fair, grade}
use Rattle.grades.specs.Scale.{margins_by_terms, passes_by_terms, grade_by_terms, passes, grade_by_sheet}
use Rattle.grades.proofs.Grades.{first_passed, first_passed-bounds}
use Rattle.grades.proofs.Implied.{envy_free-proportional, proportional-maximin_fair, maximin_fair-none_negative}

-- where each test implies the next, they pass from the first that passes on
from_first : (a b c d : Bool) → (a ≡ true → b ≡ true) → (b ≡ true → c ≡ true) → (c ≡ true → d ≡ true) → a ∷ b ∷ c ∷ d ∷ [] ≡ map (leb (first_passed a b c d)) (range 1 4)
from_first true b c d ab bc cd = rw (cd (bc (ab refl)), bc (ab refl), ab refl)
from_first false true c d ab bc cd = rw (cd (bc refl), bc refl)
from_first false false true d ab bc cd = rw (cd refl)
from_first false false false true ab bc cd = refl
from_first false false false false ab bc cd = refl

nth-from-first : (a b c d : Bool) → (a ≡ true → b ≡ true) → (b ≡ true → c ≡ true) → (c ≡ true → d ≡ true)
    → (g : ℕ) → 1 ≤ g → nth true (a ∷ b ∷ c ∷ d ∷ []) g ≡ leb (first_passed a b c d) g
nth-from-first a b c d ab bc cd g some =
    ap (λ l. nth true l g) (from_first a b c d ab bc cd)
    ∙ ⊎_elim
    (λ lt. nth-map-range (leb (first_passed a b c d)) true 4 (in-range 1 4 g some (omega arith)))
    (λ ge. get_or-eq_default (map (leb (first_passed a b c d)) (range 1 4)) true {n = g - 1} (omega arith) ∙ sym (le-leb (first_passed a b c d) g (omega (arith, first_passed-bounds a b c d))))
    (lt-or-ge g 5)

-- by any terms that promise no more than document 01
module _ (sheet : Contents) (terms : Terms) (bundles : List (List ℕ)) (allowed : AtMostStandard sheet.agents terms) (allocates : Allocates sheet.agents sheet.items bundles) where
  -- it passes the test for g exactly where its grade is at most g
  pub passes_by_terms-from-grade : (g : ℕ) → 1 ≤ g → passes_by_terms sheet terms bundles g ≡ leb (grade_by_terms sheet terms bundles) g
  unfolding grade
  passes_by_terms-from-grade =
      nth-from-first
      (envy_free sheet.agents (valuations_of sheet) bundles)
      (proportional sheet.agents (valuations_of sheet) bundles)
      (maximin_fair sheet.agents (valuations_of sheet) (shares_of sheet) bundles)
      (none_negative sheet.agents (margins_by_terms sheet terms bundles))
      (envy_free-proportional sheet.agents sheet.items sheet.table bundles allocates)
      (proportional-maximin_fair sheet.agents sheet.items sheet.table bundles)
      (maximin_fair-none_negative sheet.agents sheet.items sheet.table bundles terms (shares_of sheet) (at-most-whole allowed))

  -- what passes a test passes all those after it
  pub passes_by_terms-later : (g h : ℕ) → 1 ≤ g → g ≤ h → passes_by_terms sheet terms bundles g ≡ true → passes_by_terms sheet terms bundles h ≡ true
  passes_by_terms-later g h some later passed =
      let graded = grade_by_terms sheet terms bundles in
      passes_by_terms-from-grade h (omega arith)
      ∙ le-leb graded h (omega (arith, leb-true graded g (sym (passes_by_terms-from-grade g some) ∙ passed)))

-- by those of document 01
module _ (sheet : Contents) (bundles : List (List ℕ)) (allocates : Allocates sheet.agents sheet.items bundles) where
  pub passes-from-grade : (g : ℕ) → 1 ≤ g → passes sheet bundles g ≡ leb (grade_by_sheet sheet bundles) g
  passes-from-grade = passes_by_terms-from-grade sheet (terms_for sheet.agents) bundles (terms_for-at-most-standard sheet.agents) allocates

  pub passes-later : (g h : ℕ) → 1 ≤ g → g ≤ h → passes sheet bundles g ≡ true → passes sheet bundles h ≡ true
  passes-later = passes_by_terms-later sheet (terms_for sheet.agents) bundles (terms_for-at-most-standard sheet.agents) allocates

  -- "a grade 1 division passes the tests for 2 and 3"
  pub grade-1-passes-2-and-3 : grade_by_sheet sheet bundles ≡ 1 → (passes sheet bundles 2 ≡ true) × (passes sheet bundles 3 ≡ true)
  grade-1-passes-2-and-3 is-1 = (passes-from-grade 2 (omega arith) ∙ ap (λ g. leb g 2) is-1, passes-from-grade 3 (omega arith) ∙ ap (λ g. leb g 3) is-1)

  -- "and a grade 2 division the test for 3"
  pub grade-2-passes-3 : grade_by_sheet sheet bundles ≡ 2 → passes sheet bundles 3 ≡ true
  grade-2-passes-3 is-2 = passes-from-grade 3 (omega arith) ∙ ap (λ g. leb g 3) is-2
