-- The loop's invariant: the first margins are written.
use mathlib.Core.List.{flat_map}
use Rattle.lists.specs.Lists.{range}
use Rattle.writing.specs.WithText.{Writes}
use Rattle.sheet_to_judgement.specs.internal.MarginsText.{spaced_margin}
use Rattle.sheet_to_judgement.proofs.accepted.put_margins.Given as goal

abbrev pub invariant-loop-margin : goal.invariant-loop-margin
invariant-loop-margin l = Writes l.initial.writer (flat_map (spaced_margin l.fn.margins) (range 1 l.margin-index)) l.writer
