-- What a text with a sheet and a division, and a lent buffer, are answered (document 02, order 5). Assumes nothing: these are definitions.
use Rattle.std.specs.Prelude.{◌≡◌, List, ℕ, ℤ, Some}
use Rattle.sheet.specs.Answers.{Answer, accepted, and_then}
use Rattle.sheet.specs.Contents.{Contents}
use Rattle.tokens.specs.Tokens.{Token}
use Rattle.reading.specs.Reading.{reading_front}
use Rattle.writing.specs.Filled.{filling}
use Rattle.terms.specs.Terms.{terms_of}
use Rattle.grades.specs.Scale.{margins_by_terms}
use Rattle.division_reading.specs.Stated.{Stated}
use Rattle.division_reading.specs.Grammar.{division_text}
use Rattle.stated_truth.specs.Truth.{bundles_of, AllTrue}
use Rattle.stated_truth.specs.Judging.{judging}
use Rattle.sheet_to_judgement.specs.AcceptedText.{accepted_text}

-- the judgement on the division that stands behind a sheet, as these tokens
abbrev pub sheet_judged : Contents → List Token → Answer (List ℤ)
sheet_judged sheet behind = judging sheet (division_text sheet.agents sheet.items behind)

-- "Read, from one text, a sheet through its `(end)` line .., and then a division": the refusal's number, or the margins
unfoldable pub text_judged : List ℕ → Answer (List ℤ)
text_judged text = and_then (reading_front text) (λ (sheet, behind). sheet_judged sheet behind)

-- "For each yard print its margin", 10 last: a text, and the length of the buffer
unfoldable pub judgement_from : List ℕ → ℕ → Answer (List ℕ)
judgement_from text room = and_then (text_judged text) (λ margins. filling room (accepted_text margins))

-- what a text has where it is judged to the end: a sheet, and behind it a division that states d
pub record States (text : List ℕ) (sheet : Contents) (d : Stated) : Type 0 where
  pub behind : List Token
  pub sheet_read : reading_front text ≡ accepted (sheet, behind)
  pub division_read : division_text sheet.agents sheet.items behind ≡ Some d

-- "It is accepted exactly if all it states is true": a text with a sheet and a division, all of which is true, and the margins of its bundles
pub record TrueText (text : List ℕ) (margins : List ℤ) : Type 0 where
  pub sheet : Contents
  pub division : Stated
  pub states : States text sheet division
  pub all_true : AllTrue sheet (terms_of sheet) division
  pub margins_given : margins ≡ margins_by_terms sheet (terms_of sheet) (bundles_of division)
