-- What a text and a lent buffer are answered. Assumes nothing: these are definitions.
use Rattle.std.specs.Prelude.{List, ℕ}
use Rattle.sheet.specs.Limits.{earlier_mark_limits}
use Rattle.sheet.specs.Answers.{Answer, and_then}
use Rattle.writing.specs.Filled.{filling}
use Rattle.reading.specs.Reading.{reading_by, reading}
use Rattle.strict_text.specs.StrictText.{strict_text}

-- "We also want a writer from text to the strict layout of document 01. It fills one lent buffer from its front, token by token." and "A
-- buffer too short is refusal 10." (document 02, order 1): a text, and the length of the buffer
unfoldable pub rewriting : List ℕ → ℕ → Answer (List ℕ)
rewriting text room = and_then (reading text) (λ sheet. filling room (strict_text sheet))

-- what a text and a lent buffer were answered before order 3 of document 02, when a mark went to 65,535 in five digits
abbrev pub rewriting_before : List ℕ → ℕ → Answer (List ℕ)
rewriting_before text room = and_then (reading_by earlier_mark_limits text) (λ sheet. filling room (strict_text sheet))
