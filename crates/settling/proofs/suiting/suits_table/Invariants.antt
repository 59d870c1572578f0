-- The loop's invariant: the first i rows are filled in.
use Rattle.lists.specs.Lists.{nth}
use Rattle.sheet.specs.Limits.{most_agents}
use Rattle.sheet.specs.Tables.{valuation_of}
use Rattle.settling.specs.Suiting.{suits_row}
use Rattle.lists.proofs.places.Filling.{Filled}
use Rattle.settling.proofs.suiting.suits_table.Given as goal

abbrev pub invariant-loop-i : goal.invariant-loop-i
invariant-loop-i l = Filled (λ agent. suits_row l.terms (valuation_of l.table agent) (nth 0 l.shares agent) l.sets) most_agents l.suiting l.i
