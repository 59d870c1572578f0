use Rattle.tokeniser.proofs.Places.{inside-text}
use Rattle.tokeniser.proofs.NextToken.{start-from-inside, ended_at}
use Rattle.tokeniser.proofs.ended.Goals as goal

pub token_start-requires : goal.token_start-requires
token_start-requires c = rw c.inside-here.ensures (inside-text _ _)

pub returns : goal.returns
returns c = rw (start-from-inside _ _ c.inside-here.ensures c.token_start.ensures) (ended_at _ _)
