-- The loop's invariant: the first i items may be kept.
use Rattle.exact_levels.proofs.kept.Staged.{Staged}
use Rattle.exact_levels.proofs.keeping.keep_most.Given as goal

abbrev pub invariant-loop-i : goal.invariant-loop-i
invariant-loop-i l = Staged l.valuation l.levels l.before l.items l.sets l.kept l.i
