use mathlib.Core.Path.{sym}
use native.Mathlib.Omega.{arith}
use Rattle.exact_levels.proofs.sets.Named.{is_part-bits}
use Rattle.exact_search.proofs.parts.is_part.Goals as goal

pub returns : goal.returns
returns c = sym (is_part-bits c.args.part c.args.set (omega arith))
