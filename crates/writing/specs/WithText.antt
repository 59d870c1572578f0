-- What a writer is once a text is written: what the functions that write say of it. Assumes nothing: these are definitions.
use mathlib.Core.List.{List}
use Rattle.std.specs.Prelude.{◌≡◌, ℕ}
use denote.Ref.{at_last}
use Rattle.writing.specs.Output.{Output, output, with_bytes}
use Rattle.writing.specs.declared.Writer.{Writer}

-- a writer as a buffer and a place
abbrev pub output_of : Writer → Output
output_of w = output w.buffer.now w.at

-- the same borrow with the bytes and the place of an output
abbrev pub with_output : Writer → Output → Writer
with_output w o = record { buffer = at_last w.buffer o.bytes; at = o.next }

-- the writer once the text is written, as far as there is room
abbrev pub with_text : Writer → List ℕ → Writer
with_text w text = with_output w (with_bytes (output_of w) text)

-- the one writer becomes the other by the text
pub record Writes (from : Writer) (text : List ℕ) (to : Writer) : Type 0 where
  pub bytewise : to ≡ with_text from text
