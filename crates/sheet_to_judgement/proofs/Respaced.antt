-- Spaces, remarks and blank lines count for nothing in a text that is judged ("with order 1's spaces and remarks allowed", document 02, order
-- 5): with one more of them it is answered as without. Assumes nothing.
use mathlib.Core.Path.{◌≡◌, sym, ap}
use mathlib.Core.List.{List}
use Prim.Native.Nat.{ℕ, ◌≤◌, ◌<◌}
use lib.ListN.{length}
use Rattle.sheet.specs.Limits.{longest_text}
use Rattle.sheet.specs.Answers.{and_then}
use Rattle.tokens.specs.Respaced.{Respaced}
use Rattle.reading.proofs.Respaced.{respaced-front}
use Rattle.writing.specs.Filled.{filling}
use Rattle.sheet_to_judgement.specs.AcceptedText.{accepted_text}
use Rattle.sheet_to_judgement.specs.TextJudged.{sheet_judged, text_judged, judgement_from}

module _ {text text' : List ℕ} (r : Respaced text text') (some_byte : 0 < length text) (few : length text' ≤ longest_text) where
  pub respaced-judged : text_judged text' ≡ text_judged text
  unfolding text_judged
  respaced-judged = ap (λ a. and_then a (λ (sheet, behind). sheet_judged sheet behind)) (sym (respaced-front r some_byte few))

  -- and so with a buffer of any length
  pub respaced-judgement : (room : ℕ) → judgement_from text' room ≡ judgement_from text room
  unfolding judgement_from
  respaced-judgement room = ap (λ a. and_then a (λ margins. filling room (accepted_text margins))) respaced-judged
