-- A lent buffer that is filled from its front with a text, or refused. Assumes nothing: these are definitions.
use Rattle.std.specs.Prelude.{List, ◌++◌, ℕ, leb, length, drop}
use Rattle.sheet.specs.Answers.{Answer, accepted, require}

-- 10: "The buffer lent for printing is shorter than the text to be printed": what is written into a buffer of so many bytes
abbrev pub filling : ℕ → List ℕ → Answer (List ℕ)
filling room text = require 10 (leb (length text) room) (accepted text)

-- "Bytes of the buffer after the text keep their old content": a buffer that holds the text at its front
abbrev pub filled : List ℕ → List ℕ → List ℕ
filled text old = text ++ drop (length text) old
