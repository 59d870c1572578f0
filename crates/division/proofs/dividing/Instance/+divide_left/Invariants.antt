-- The proof of the cycle of calls {divide_left}. The measure is the number of agents left.
use lib.ListN.{length}
use Rattle.serving.specs.Serving.{agents_in}
use Rattle.division.proofs.dividing.Instance.+divide_left.Given as goal

abbrev pub decreases-divide_left : goal.decreases-divide_left
decreases-divide_left l = length (agents_in l.left)
