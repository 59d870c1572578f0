-- The loop's invariant: the first numbers are written.
use lib.ListN.{take}
use Rattle.text.specs.Decimal.{spaced_numbers}
use Rattle.writing.specs.WithText.{Writes}
use Rattle.writing.proofs.Writer.spaced.Given as goal

abbrev pub invariant-loop-n : goal.invariant-loop-n
invariant-loop-n l = Writes l.initial.self (spaced_numbers (take l.n-index l.numbers)) l.self
