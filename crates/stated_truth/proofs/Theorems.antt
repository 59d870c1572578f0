-- A division "is accepted exactly if all it states is true" (document 02, order 5), and then with the margins of its bundles. For every sheet and all
-- terms, and for everything that a division can state. Assumes nothing.
use mathlib.Core.Path.{◌≡◌, refl, sym, ap, ◌∙◌}
use mathlib.Core.Bool.{Bool, true, ◌&&◌, and-eq-true_iff}
use mathlib.Core.Logic.{◌↔◌, ⊎_elim}
use mathlib.Core.List.{List, Memᴰ as Mem}
use Rattle.std.specs.Prelude.{Option, None, Some}
use Rattle.std.proofs.lemmas.Option.{none-some, same_Some}
use Prim.Native.Nat.{ℕ, ◌≤◌}
use native.Mathlib.Omega.{arith}
use lib.Dec.{eqb, leb}
use lib.IntN.{ℤ}
use lib.ListN.{length, length-map}
use borrow.Author.Tests.{eq-eqb, eqb-true, le-leb, leb-true}
use Rattle.lists.specs.Lists.{range, all}
use Rattle.lists.proofs.ranges.Ranges.{in-range, range-bounds, nth-mem}
use Rattle.lists.proofs.members.Counting.{mem-all, all-mem}
use Rattle.lists.proofs.members.Tests.{all-nth}
use Rattle.sheet.specs.Limits.{CountsWithin}
use Rattle.sheet.specs.Contents.{Contents}
use Rattle.sheet.specs.Allocations.{Allocates}
use Rattle.sheet.specs.Answers.{refused, accepted, require_some}
use Rattle.sheet.proofs.Accepted.{refused-not-accepted, required, required_some}
use Rattle.shares.specs.Shares.{share_of, sharing}
use Rattle.shares.proofs.Refusals.{sharing-cases}
use Rattle.terms.specs.declared.Terms.{Terms}
use Rattle.grades.specs.Scale.{margins_by_terms, grade_by_terms}
use Rattle.division_reading.specs.Stated.{Stated}
use Rattle.division_reading.specs.declared.Stated as stated
use Rattle.stated_truth.specs.Truth.{bundles_of, none_stated, line_of, bundles_and_cuts, of_sheet, each_in_one, worth_to, least_of_cut, line_true, figures_true, AllTrue}
use Rattle.stated_truth.specs.Judging.{judging_by, judging_read, TrueDivision}
use Rattle.stated_truth.specs.Lines.{stated_of, stated_in}
use Rattle.stated_truth.proofs.Allocating.{of-sheet-says, tests-allocate, allocates-of-sheet, allocates-in-one}
use Rattle.stated_truth.proofs.Verdicts.{judging-refused, judging-within, judged-true}

module _ (sheet : Contents) (terms : Terms) (d : Stated) where
  in_use : (i : ℕ) → 1 ≤ i → i ≤ sheet.agents → Mem i (range 1 sheet.agents)
  in_use i lo hi = in-range 1 sheet.agents i lo (omega arith)

  -- a test that the bundles pass, and those of each cut
  module _ (test : List (List ℕ) → Bool) where
    passed : bundles_and_cuts test d ≡ true → (test (bundles_of d) ≡ true) × (all (λ l. test l.cut) d.lines ≡ true)
    unfolding bundles_and_cuts
    passed e = (and-eq-true_iff (test (bundles_of d)) (all (λ l. test l.cut) d.lines)).0 e

    module _ (each : length d.lines ≡ sheet.agents) where
      cut-passes : bundles_and_cuts test d ≡ true → (i : ℕ) → 1 ≤ i → i ≤ sheet.agents → test (line_of d i).cut ≡ true
      cut-passes e i lo hi = all-mem (λ l. test l.cut) (passed e).1 (nth-mem none_stated d.lines sheet.agents each (in_use i lo hi))

      all_pass : test (bundles_of d) ≡ true → ((i : ℕ) → 1 ≤ i → i ≤ sheet.agents → test (line_of d i).cut ≡ true) → bundles_and_cuts test d ≡ true
      unfolding bundles_and_cuts
      all_pass first cuts =
          rw first
          (all-nth (λ l. test l.cut) none_stated d.lines sheet.agents each
          ∙ mem-all (λ i. test (line_of d i).cut) (range 1 sheet.agents) (λ i mi. let b = range-bounds 1 sheet.agents mi in cuts i b.0 (omega arith)))

  -- what the test of a line says
  abbrev LineParts : ℕ → Type 0
  LineParts i =
      ((line_of d i).worth ≡ worth_to sheet i (line_of d i).bundle) × ((line_of d i).share ≡ share_of sheet i) × (share_of sheet i ≤ least_of_cut sheet i (line_of d i).cut)

  line-parts : (i : ℕ) → line_true sheet i (line_of d i) ≡ true → LineParts i
  unfolding line_true
  line-parts i passed =
      let l = line_of d i in
      let first = (and-eq-true_iff (eqb l.worth (worth_to sheet i l.bundle) && eqb l.share (share_of sheet i)) (leb (share_of sheet i) (least_of_cut sheet i l.cut))).0 passed in
      let second = (and-eq-true_iff (eqb l.worth (worth_to sheet i l.bundle)) (eqb l.share (share_of sheet i))).0 first.0 in
      (eqb-true _ _ second.0, eqb-true _ _ second.1, leb-true _ _ first.1)

  line-passes : (t : AllTrue sheet terms d) (i : ℕ) → 1 ≤ i → i ≤ sheet.agents → line_true sheet i (line_of d i) ≡ true
  unfolding line_true
  line-passes t i lo hi =
      rw (eq-eqb _ _ (t.worth_true i lo hi), eq-eqb _ _ (t.share_true i lo hi)) (le-leb _ _ (t.cut_reaches i lo hi))

  -- the tests of refusals 11, 12 and 13 say that all is true
  tests-true : bundles_and_cuts (of_sheet sheet.agents sheet.items) d ≡ true → bundles_and_cuts (each_in_one sheet.items) d ≡ true → figures_true sheet terms d ≡ true → AllTrue sheet terms d
  unfolding figures_true
  tests-true of-sheet in_one figures =
      let n = sheet.agents in
      let m = sheet.items in
      let each : length d.lines ≡ n = sym (length-map d.lines (λ l. l.bundle)) ∙ (of-sheet-says n m (bundles_of d) (passed (of_sheet n m) of-sheet).0).0 in
      let (lines, grade) = (and-eq-true_iff (all (λ i. line_true sheet i (line_of d i)) (range 1 sheet.agents)) (eqb d.grade (grade_by_terms sheet terms (bundles_of d)))).0 figures in
      let parts : (i : ℕ) → 1 ≤ i → i ≤ sheet.agents → LineParts i = λ i lo hi. line-parts i (all-mem (λ i. line_true sheet i (line_of d i)) lines (in_use i lo hi)) in
      record {
        divides = tests-allocate n m (bundles_of d) (passed (of_sheet n m) of-sheet).0 (passed (each_in_one m) in_one).0;
        cut_divides = λ i lo hi. tests-allocate n m (line_of d i).cut (cut-passes (of_sheet n m) each of-sheet i lo hi) (cut-passes (each_in_one m) each in_one i lo hi);
        worth_true = λ i lo hi. (parts i lo hi).0;
        share_true = λ i lo hi. (parts i lo hi).1;
        cut_reaches = λ i lo hi. (parts i lo hi).2;
        grade_true = eqb-true _ _ grade;
      }

  -- and where all is true, they pass
  module _ (t : AllTrue sheet terms d) where
    allocating-passes : (test : List (List ℕ) → Bool) → ((bundles : List (List ℕ)) → Allocates sheet.agents sheet.items bundles → test bundles ≡ true) → bundles_and_cuts test d ≡ true
    allocating-passes test passes =
        all_pass test (sym (length-map d.lines (λ l. l.bundle)) ∙ t.divides.bundle_each) (passes (bundles_of d) t.divides) (λ i lo hi. passes (line_of d i).cut (t.cut_divides i lo hi))

    true-figures : figures_true sheet terms d ≡ true
    unfolding figures_true
    true-figures =
        rw (mem-all (λ i. line_true sheet i (line_of d i)) (range 1 sheet.agents) (λ i mi. let b = range-bounds 1 sheet.agents mi in line-passes t i b.0 (omega arith)))
        (eq-eqb _ _ t.grade_true)

    all-true-accepted : judging_read sheet terms d ≡ accepted (margins_by_terms sheet terms (bundles_of d))
    all-true-accepted =
        judged-true sheet terms d
        (allocating-passes (of_sheet sheet.agents sheet.items) (allocates-of-sheet sheet.agents sheet.items))
        (allocating-passes (each_in_one sheet.items) (allocates-in-one sheet.agents sheet.items))
        true-figures

  accepted-all-true : (margins : List ℤ) → judging_read sheet terms d ≡ accepted margins → AllTrue sheet terms d × (margins ≡ margins_by_terms sheet terms (bundles_of d))
  accepted-all-true margins e =
      let (of-sheet, rest) = required margins 11 (bundles_and_cuts (of_sheet sheet.agents sheet.items) d) _ e in
      let (in_one, later) = required margins 12 (bundles_and_cuts (each_in_one sheet.items) d) _ rest in
      let (figures, last) = required margins 13 (figures_true sheet terms d) _ later in
      let same : margins ≡ margins_by_terms sheet terms (bundles_of d) = cc in
      (tests-true of-sheet in_one figures, same)

module _ (sheet : Contents) (terms : Terms) (stated : Option Stated) (margins : List ℤ) where
  -- what is accepted is true, and has its margins
  within-true : CountsWithin sheet.agents sheet.items → require_some 11 stated (judging_read sheet terms) ≡ accepted margins → TrueDivision sheet terms stated margins
  within-true counts e =
      let (d, is, read) = required_some margins 11 stated _ e in
      let (all_true, same) = accepted-all-true sheet terms d margins read in
      record { counts = counts; division = d; was_read = is; all_true = all_true; margins_given = same }

  accepted-true : judging_by sheet terms stated ≡ accepted margins → TrueDivision sheet terms stated margins
  accepted-true e =
      ⊎_elim
      (λ counts. within-true counts (sym (judging-within sheet terms stated counts) ∙ e))
      (λ (r : (number : ℕ) × (sharing sheet ≡ refused number)). absurd (refused-not-accepted margins r.0 (sym (judging-refused sheet terms stated r.0 r.1) ∙ e)))
      (sharing-cases sheet)

  -- what is true is accepted
  true-accepted : TrueDivision sheet terms stated margins → judging_by sheet terms stated ≡ accepted margins
  true-accepted t =
      judging-within sheet terms stated t.counts
      ∙ ap (λ o. require_some 11 o (judging_read sheet terms)) t.was_read
      ∙ all-true-accepted sheet terms t.division t.all_true
      ∙ ap accepted (sym t.margins_given)

  -- "accepted exactly if all it states is true"
  pub accepted-exactly-if-all-true : (judging_by sheet terms stated ≡ accepted margins) ↔ TrueDivision sheet terms stated margins
  accepted-exactly-if-all-true = (accepted-true, true-accepted)

-- the same of whatever the code is handed: lines in places, and sets that may name any items
module _ (sheet : Contents) (terms : Terms) (margins : List ℤ) where
  -- what its lines state
  abbrev division : stated.Stated → Stated
  division d = stated_of sheet.agents d.grade d.lines

  pub handed-accepted-exactly-if-all-true : (handed : Option stated.Stated) → (judging_by sheet terms (stated_in sheet.agents handed) ≡ accepted margins)
      ↔ ((d : stated.Stated) × (handed ≡ Some d) × CountsWithin sheet.agents sheet.items × AllTrue sheet terms (division d) × (margins ≡ margins_by_terms sheet terms (bundles_of (division d))))
  handed-accepted-exactly-if-all-true None =
      let exactly = accepted-exactly-if-all-true sheet terms None margins in (
        λ e. let t = exactly.0 e in absurd (none-some _ t.was_read),
        λ (d, was_read, counts, all_true, same). absurd (none-some _ was_read),
      )
  handed-accepted-exactly-if-all-true (Some handed) =
      let exactly = accepted-exactly-if-all-true sheet terms (Some (division handed)) margins in (
        λ e.
            let t = exactly.0 e in
            let same : division handed ≡ t.division = same_Some _ _ t.was_read in
            (handed, refl, t.counts, rw same t.all_true, t.margins_given ∙ ap (λ d. margins_by_terms sheet terms (bundles_of d)) (sym same)),
        λ (d, was_read, counts, all_true, same). exactly.1 (record { counts = counts; division = division d; was_read = ap (stated_in sheet.agents) was_read; all_true = all_true; margins_given = same }),
      )
