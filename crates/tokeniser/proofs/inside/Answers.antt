use Rattle.tokeniser.specs.Places.{inside}
use Rattle.tokeniser.proofs.inside.Goals as goal

pub returns : goal.returns
unfolding inside
returns c = rw c.min.ensures
