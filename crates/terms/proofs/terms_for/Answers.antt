use Rattle.terms.specs.Terms.{largest_odd, terms_for}
use Rattle.terms.proofs.terms_for.Goals as goal

pub returns : goal.returns
unfolding terms_for largest_odd
returns c = cc
