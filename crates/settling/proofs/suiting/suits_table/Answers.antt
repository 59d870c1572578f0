use native.Mathlib.Omega.{arith}
use Rattle.sheet.specs.Limits.{most_agents}
use Rattle.settling.specs.Suiting.{suits_table}
use Rattle.lists.proofs.places.Filling.{fill-all}
use Rattle.settling.proofs.suiting.suits_table.Goals as goal

pub returns : goal.returns
unfolding suits_table
returns c = let l = c.loop-i in fill-all _ most_agents l.suiting l.i l.invariant (omega (arith, l.invariant.within))
