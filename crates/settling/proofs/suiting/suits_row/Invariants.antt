-- The loop's invariant: the first i places are filled in.
use Rattle.lists.specs.Lists.{nth}
use Rattle.sheet.specs.Limits.{most_agents}
use Rattle.settling.specs.Suiting.{set_suits}
use Rattle.lists.proofs.places.Filling.{Filled}
use Rattle.settling.proofs.suiting.suits_row.Given as goal

abbrev pub invariant-loop-i : goal.invariant-loop-i
invariant-loop-i l = Filled (λ c. set_suits l.terms l.valuation l.share (nth 0 l.sets c)) most_agents l.row l.i
