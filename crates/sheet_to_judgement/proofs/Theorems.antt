-- "It is accepted exactly if all it states is true" (document 02, order 5), for every text. Assumes nothing.
use mathlib.Core.Path.{◌≡◌, refl, ap, ◌∙◌}
use mathlib.Core.Logic.{◌↔◌}
use mathlib.Core.List.{List}
use Prim.Native.Nat.{ℕ}
use lib.IntN.{ℤ}
use Rattle.sheet.specs.Answers.{Answer, refused, accepted, and_then}
use Rattle.sheet.proofs.Accepted.{refused-not-accepted}
use Rattle.reading.specs.Reading.{reading_front}
use Rattle.terms.specs.Terms.{terms_of}
use Rattle.division_reading.specs.Grammar.{division_text}
use Rattle.stated_truth.proofs.Theorems.{accepted-exactly-if-all-true}
use Rattle.sheet_to_judgement.specs.TextJudged.{sheet_judged, text_judged, TrueText}
use Rattle.sheet_to_judgement.proofs.Front.{reading_front-counts}

-- the sheet of a text that is not refused, and what stands behind it
followed : {A B : Type 0} (a : Answer A) (next : A → Answer B) (b : B) → and_then a next ≡ accepted b → (r : A) × (a ≡ accepted r) × (next r ≡ accepted b)
followed (refused k) next b e = absurd (refused-not-accepted b k e)
followed (accepted r) next b e = (r, refl, e)

module _ (text : List ℕ) (margins : List ℤ) where
  -- what is accepted is true
  accepted-true : text_judged text ≡ accepted margins → TrueText text margins
  unfolding text_judged
  accepted-true e =
      let ((sheet, behind), front, judged) = followed (reading_front text) _ margins e in
      let t = (accepted-exactly-if-all-true sheet (terms_of sheet) (division_text sheet.agents sheet.items behind) margins).0 judged in
      record {
        sheet = sheet;
        division = t.division;
        states = record { behind = behind; sheet_read = front; division_read = t.was_read };
        all_true = t.all_true;
        margins_given = t.margins_given;
      }

  -- what is true is accepted
  true-accepted : TrueText text margins → text_judged text ≡ accepted margins
  unfolding text_judged
  true-accepted t =
      let sheet = t.sheet in
      let s = t.states in
      ap (λ a. and_then a (λ (c, ts). sheet_judged c ts)) s.sheet_read
      ∙ (accepted-exactly-if-all-true sheet (terms_of sheet) (division_text sheet.agents sheet.items s.behind) margins).1
      (record {
        counts = reading_front-counts text sheet s.behind s.sheet_read;
        division = t.division;
        was_read = s.division_read;
        all_true = t.all_true;
        margins_given = t.margins_given;
      })

  -- "It is accepted exactly if all it states is true"
  pub accepted-exactly-if-true : (text_judged text ≡ accepted margins) ↔ TrueText text margins
  accepted-exactly-if-true = (accepted-true, true-accepted)
