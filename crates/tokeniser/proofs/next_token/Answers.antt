use mathlib.Core.Path.{◌≡◌, sym, ap, ◌∙◌}
use Prim.Native.Nat.{◌<◌}
use native.Mathlib.Omega.{arith}
use lib.ListN.{length}
use Rattle.tokeniser.specs.Places.{inside}
use Rattle.tokeniser.specs.NextToken.{token_start}
use Rattle.tokeniser.proofs.Places.{inside-text}
use Rattle.tokeniser.proofs.NextToken.{start-within, start-from-inside, next-at-end, next-is-token}
use Rattle.tokeniser.proofs.next_token.Goals as goal
use Rattle.tokeniser.proofs.next_token.Goals.{After-inside-at, After-token_start-from, Else-from-s}

-- where the token starts, and what its line has begun with
starts : (c : After-token_start-from) → let a = c.args in c.token_start-from.result ≡ token_start a.s.now a.c
starts c = start-from-inside _ _ c.inside-at.ensures c.token_start-from.ensures

same_line : (c : After-inside-at) → c.inside-at.result.begun ≡ c.args.c.begun
unfolding inside
same_line c = ap (λ p. p.begun) c.inside-at.ensures

starts-before-end : (c : Else-from-s) → let a = c.args in token_start a.s.now a.c < length a.s.now
starts-before-end c = let a = c.args in omega (arith, start-from-inside a.s.now a.c c.inside-at.ensures c.token_start-from.ensures, start-within a.s.now a.c)

pub token_start-from-requires : goal.token_start-from-requires
token_start-from-requires c = rw c.inside-at.ensures (inside-text _ _)

pub returns-then-from-s : goal.returns-then-from-s
returns-then-from-s c =
    let found = starts (goal.at.returns-then-from-s c).After-token_start-from in
    rw (found, same_line (goal.at.returns-then-from-s c).After-inside-at) (sym (next-at-end _ _ (sym found ∙ c.if-from-s.true)))

pub token_end-to-requires : goal.token_end-to-requires
token_end-to-requires c = omega (arith, starts (goal.at.token_end-to-requires c).After-token_start-from, starts-before-end c)

pub bounds-s-from : goal.bounds-s-from
bounds-s-from c = omega (arith, starts (goal.at.bounds-s-from c).After-token_start-from, starts-before-end (goal.at.bounds-s-from c).Else-from-s)

pub returns : goal.returns
returns c =
    rw (c.token_end-to.ensures, starts (goal.at.returns c).After-token_start-from) (sym (next-is-token _ _ (starts-before-end (goal.at.returns c).Else-from-s)))
