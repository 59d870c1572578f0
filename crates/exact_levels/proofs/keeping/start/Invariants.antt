-- The loop's invariant: the sets below `set` are done.
use Rattle.exact_levels.specs.internal.Keeping.{Started}
use Rattle.exact_levels.proofs.keeping.start.Given as goal

abbrev pub invariant-loop-set : goal.invariant-loop-set
invariant-loop-set l = Started l.levels l.before l.set l.kept
