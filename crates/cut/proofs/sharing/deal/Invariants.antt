-- The loop's invariant: the loads are those of a partition of the values passed.
use Rattle.cut.proofs.sharing.Dealt.{Dealt}
use Rattle.cut.proofs.sharing.deal.Given as goal

abbrev pub invariant-loop-value : goal.invariant-loop-value
invariant-loop-value l = Dealt l.bundles l.values l.loads l.value-index
