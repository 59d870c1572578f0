-- The proof of the cycle of calls {largest}. The measure is the number of agents still to be tried.
use lib.ListN.{length}
use Rattle.serving.proofs.waiting.+largest.Given as goal

abbrev pub decreases-largest : goal.decreases-largest
decreases-largest l = length l.others.now
