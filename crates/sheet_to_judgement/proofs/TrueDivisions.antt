-- Every true division in the printed layout is accepted ("It is accepted exactly if all it states is true", document 02, order 5): behind the
-- strict text of its sheet, the text of what it states gets the margins of its bundles. Assumes nothing.
use mathlib.Core.Path.{◌≡◌, refl, ◌∙◌}
use mathlib.Core.List.{List, ◌++◌, Memᴰ as Mem}
use Prim.Native.Nat.{ℕ, ◌+◌, ◌^◌, ◌≤◌, ◌<◌}
use native.Mathlib.Omega.{arith}
use lib.ListN.{length, length-append}
use Rattle.lists.proofs.places.Places.{nth-next}
use Rattle.lists.proofs.places.Entries.{mem-place}
use Rattle.lists.proofs.ranges.Ranges.{in-range}
use Rattle.sheet.specs.Limits.{greatest_mark, sum_digits, longest_text}
use Rattle.sheet.specs.Answers.{accepted}
use Rattle.sheet.specs.Valuations.{item_value}
use Rattle.sheet.specs.Tables.{valuation_of}
use Rattle.sheet.specs.Contents.{Contents, valuations_of}
use Rattle.sheet.proofs.valuing.Tables.{value-all_values, value-small}
use Rattle.tokens.specs.Tokens.{tokens}
use Rattle.reading.proofs.SmallMarks.{table-small}
use Rattle.strict_text.specs.StrictText.{strict_text, rows_in_use}
use Rattle.strict_text.specs.WithinLimits.{WithinLimits}
use Rattle.strict_text.proofs.TextLength.{length-strict_text}
use Rattle.strict_text.proofs.AtFront.{strict_text-at-front}
use Rattle.shares.specs.Shares.{shares_of}
use Rattle.shares.proofs.Marks.{share_small}
use Rattle.terms.specs.Terms.{terms_of}
use Rattle.terms.specs.declared.Terms.{Terms}
use Rattle.grades.specs.Scale.{margins_by_terms}
use Rattle.grades.proofs.Grades.{grade-bounds}
use Rattle.division_reading.specs.Stated.{StatedLine, Stated}
use Rattle.stated_truth.specs.Truth.{bundles_of, none_stated, line_of, AllTrue}
use Rattle.division_reading.specs.Shape.{WellFormed, FewDigits}
use Rattle.stated_text.specs.StatedText.{stated_text}
use Rattle.stated_text.proofs.Lines.{line-bundle}
use Rattle.stated_text.proofs.ReadBack.{stated_text-reads-back}
use Rattle.stated_text.proofs.TextLength.{length-stated_text}
use Rattle.sheet_to_judgement.specs.TextJudged.{States, text_judged}
use Rattle.sheet_to_judgement.proofs.Theorems.{accepted-exactly-if-true}

-- a sheet within the limits, and a division of it, all of which is true by some terms
module _ (sheet : Contents) (w : WithinLimits sheet) (d : Stated) (shape : WellFormed sheet.agents sheet.items d) {terms : Terms} (t : AllTrue sheet terms d) where
  marks-small : (i k : ℕ) → item_value (valuation_of sheet.table i) k ≤ greatest_mark
  marks-small = table-small (rows_in_use sheet.agents sheet.items sheet.table) sheet.table w.blank_beyond w.marks_allowed

  -- what is true of the figures of each line is true of each line that is there
  each_line : (P : StatedLine → Type 0) → ((i : ℕ) → 1 ≤ i → i ≤ sheet.agents → P (line_of d i)) → (l : StatedLine) → Mem l d.lines → P l
  each_line P of-line l ml =
      let (i, lt, at) = mem-place none_stated l d.lines ml in
      rw (← (nth-next none_stated d.lines i ∙ at)) (of-line (i + 1) (omega arith) (omega (arith, shape.line_each)))

  -- true figures have few digits: a worth is the sum of the marks of some items, a share no more than that of all
  true-few-digits : FewDigits d
  true-few-digits =
      let n = sheet.agents in
      let m = sheet.items in
      let row : ℕ → List ℕ = valuation_of sheet.table in
      record {
        grade_below = omega (arith, t.grade_true, grade-bounds n (valuations_of sheet) (shares_of sheet) (margins_by_terms sheet terms (bundles_of d)) (bundles_of d));
        worth_below = each_line (λ l. l.worth < 10 ^ sum_digits) (λ i lo hi.
            let of_items = line-bundle n m d shape (in-range 1 n i lo (omega arith)) in
            omega (arith, t.worth_true i lo hi, value-all_values m (row i) of_items, value-small m (row i) of_items w.counts.few_items (marks-small i)));
        share_below = each_line (λ l. l.share < 10 ^ sum_digits) (λ i lo hi.
            omega (arith, t.share_true i lo hi, share_small n m (row i) w.counts.some w.counts.few_items (λ k. omega (arith, nth-next 0 (row i) k, marks-small i (k + 1)))));
      }

  -- the two texts together are no longer than a text may be
  length-sheet-and-division : length (strict_text sheet ++ stated_text sheet.agents sheet.items d) ≤ longest_text
  length-sheet-and-division =
      rw (length-append (strict_text sheet) (stated_text sheet.agents sheet.items d))
      (omega (arith, length-strict_text w, length-stated_text sheet.agents sheet.items d w.counts.few w.counts.few_items shape true-few-digits))

  -- so that the text of both states what the division states
  true-division-stated : States (strict_text sheet ++ stated_text sheet.agents sheet.items d) sheet d
  true-division-stated =
      let text = stated_text sheet.agents sheet.items d in
      record {
        behind = tokens text;
        sheet_read = strict_text-at-front sheet w text length-sheet-and-division;
        division_read = stated_text-reads-back sheet.agents sheet.items d w.counts.few w.counts.few_items shape true-few-digits;
      }

-- by the terms of the sheet it is accepted, with the margins of its bundles
pub true-division-accepted : (sheet : Contents) → WithinLimits sheet → (d : Stated) → WellFormed sheet.agents sheet.items d → AllTrue sheet (terms_of sheet) d
    → text_judged (strict_text sheet ++ stated_text sheet.agents sheet.items d) ≡ accepted (margins_by_terms sheet (terms_of sheet) (bundles_of d))
true-division-accepted sheet w d shape t =
    (accepted-exactly-if-true (strict_text sheet ++ stated_text sheet.agents sheet.items d) (margins_by_terms sheet (terms_of sheet) (bundles_of d))).1
    (record { sheet = sheet; division = d; states = true-division-stated sheet w d shape t; all_true = t; margins_given = refl })
