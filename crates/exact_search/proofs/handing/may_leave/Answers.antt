use native.Mathlib.Omega.{arith}
use Rattle.std.proofs.lemmas.Grind.{common_steps}
use Rattle.exact_search.specs.internal.Handing.{may_leave}
use Rattle.exact_search.proofs.handing.may_leave.Goals as goal

pub returns-then-is_part : goal.returns-then-is_part
unfolding may_leave
returns-then-is_part c = grind (arith, common_steps)

pub returns-else-is_part : goal.returns-else-is_part
unfolding may_leave
returns-else-is_part c = grind (arith, common_steps)
