-- The loop's invariant: the first bundles are written.
use mathlib.Core.List.{flat_map}
use Rattle.lists.specs.Lists.{range}
use Rattle.writing.specs.WithText.{Writes}
use Rattle.exact_printing.specs.internal.SetsText.{set_group}
use Rattle.exact_printing.proofs.put_bundles.Given as goal

abbrev pub invariant-loop-set : goal.invariant-loop-set
invariant-loop-set l = Writes l.initial.writer (flat_map (set_group l.fn.bundles) (range 1 l.set-index)) l.writer
