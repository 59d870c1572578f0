-- "orders 4 and 5 have no allowance" (document 02, order 7): no text is ever refused with 14 by judging. Assumes nothing.
use mathlib.Core.Path.{◌≡◌}
use mathlib.Core.List.{List}
use Prim.Native.Nat.{ℕ}
use native.Mathlib.Omega.{arith}
use lib.Dec.{leb}
use lib.ListN.{length}
use Rattle.sheet.specs.Answers.{NeverRefused, refused}
use Rattle.sheet.proofs.Refusals.{never-accepted, never-require, never-and_then}
use Rattle.reading.specs.Reading.{reading_front}
use Rattle.reading.proofs.Refusals.{reading_front-refusals}
use Rattle.terms.specs.Terms.{terms_of}
use Rattle.division_reading.specs.Grammar.{division_text}
use Rattle.stated_truth.proofs.Verdicts.{judging-refusals}
use Rattle.sheet_to_judgement.specs.AcceptedText.{accepted_text}
use Rattle.sheet_to_judgement.specs.TextJudged.{text_judged, judgement_from}

module _ (text : List ℕ) (room : ℕ) where
  text-refusals : NeverRefused 14 (text_judged text)
  unfolding text_judged
  text-refusals =
      never-and_then 14 (reading_front text) _ (reading_front-refusals 14 (omega arith) text) (λ (sheet, behind).
      judging-refusals sheet (terms_of sheet) (division_text sheet.agents sheet.items behind) 14 (omega arith))

  judgement-refusals : NeverRefused 14 (judgement_from text room)
  unfolding judgement_from
  judgement-refusals =
      never-and_then 14 (text_judged text) _ text-refusals (λ margins.
      never-require 14 10 (leb (length (accepted_text margins)) room) _ (λ e. omega arith) (never-accepted 14 _))

  pub judgement-never-refused-14 : judgement_from text room ≡ refused 14 → ⊥
  judgement-never-refused-14 is = judgement-refusals.never is
