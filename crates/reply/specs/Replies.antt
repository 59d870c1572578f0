-- What a program writes (document 01, "Parts of the box"): a text, or the line of a refusal. Assumes nothing: these are definitions.
use Rattle.std.specs.Prelude.{◌≡◌, ℕ, min, ◌≤◌, ◌<◌, length, take}
use mathlib.Core.List.{List, ◌++◌, foldl}
use Rattle.text.specs.Bytes.{bytes}
use Rattle.text.specs.Decimal.{decimal}
use Rattle.sheet.specs.Answers.{Answer, refused, accepted}
use Rattle.writing.specs.Output.{Output, output, with_byte}

-- "one line such as `(refused 4)`"
abbrev pub refusal_line : ℕ → List ℕ
refusal_line number = bytes "(refused " ++ decimal number ++ bytes ")\n"

-- how long it is at most: the number has up to three digits
abbrev pub longest_refusal : ℕ
longest_refusal = 14

-- a refusal's number fits one byte, as the code has it
pub record OneByteRefusal (answer : Answer (List ℕ)) : Type 0 where
  pub below : (number : ℕ) → answer ≡ refused number → number < 256

-- "prints the division, or one line such as `(refused 4)`": the text that is accepted, or the line of the refusal
abbrev pub replied : Answer (List ℕ) → List ℕ
replied (refused number) = refusal_line number
replied (accepted text) = text

-- a buffer, and the length of its front that is to be written: on a refusal its line is put there byte by byte, as far as there is room;
-- a text stands there already
abbrev pub reply_into : Answer ℕ → List ℕ → Output
reply_into (refused number) buffer = foldl with_byte (output buffer 0) (refusal_line number)
reply_into (accepted written) buffer = output buffer (min written (length buffer))

-- the first n bytes of a buffer are a front of it: there are so many, in the two ways in which one who lends them on is asked
abbrev pub Front : ℕ → List ℕ → Type 0
Front n bytes = (n ≤ length bytes) × (n ≡ length (take n bytes))
