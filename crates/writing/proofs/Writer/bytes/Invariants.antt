-- The loop's invariant: the first bytes of the text are written.
use lib.ListN.{take}
use Rattle.writing.specs.WithText.{Writes}
use Rattle.writing.proofs.Writer.bytes.Given as goal

abbrev pub invariant-loop-byte : goal.invariant-loop-byte
invariant-loop-byte l = Writes l.initial.writer (take l.byte-index l.text) l.writer
