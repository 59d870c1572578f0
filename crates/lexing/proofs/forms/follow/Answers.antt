use mathlib.Core.Path.{◌≡◌, refl, sym, ap, ◌∙◌}
use Rattle.std.specs.Prelude.{Some}
use mathlib.Core.Bool.{false}
use native.Mathlib.Omega.{arith}
use Rattle.tokens.specs.Tokens.{tokens}
use Rattle.tokens.proofs.texts.TextTokens.{tokens-have-bytes}
use Rattle.lexing.specs.Forms.{ended, follow}
use Rattle.tokeniser.specs.Places.{tokens_at}
use Rattle.tokeniser.proofs.Places.{tokens-start}
use Rattle.tokeniser.proofs.NextToken.{next-token}
use Rattle.tokeniser.proofs.Behind.{reached-here, reached-next, reached_then, reached-place}
use Rattle.lexing.specs.Results.{place_after}
use Rattle.lexing.proofs.readers.Follow.{follow-end, follow-missed, follow-passed, follow-left, left-have-bytes}
use Rattle.lexing.proofs.forms.follow.Goals as goal
use Rattle.lexing.proofs.forms.follow.Goals.{After-start-there, In-loop-there}

-- the loop begins with the whole form, at the place given
begun : (c : After-start-there) → let a = c.args in
    follow (tokens a.form.now) (tokens_at a.s.now a.c) ≡ follow (tokens_at a.form.now c.start-there.result) (tokens_at a.s.now a.c)
begun c = rw (c.start-there.ensures, tokens-start)

-- a token of the form is left where the loop goes on
form-left : (c : In-loop-there) → let a = c.args in
    ended (tokens_at a.form.now c.loop-there.there) ≡ false
form-left c = sym c.ended.ensures ∙ c.loop-there-test.true

pub loop-there-init : goal.loop-there-init
loop-there-init c = (rw (c.start-there.ensures, tokens-start) (tokens-have-bytes _), reached-here, refl)

pub returns-then-not-same_token : goal.returns-then-not-same_token
unfolding place_after
returns-then-not-same_token c =
    rw (begun (goal.at.returns-then-not-same_token c).After-start-there ∙ c.loop-there.invariant.2
    ∙ follow-missed (form-left (goal.at.returns-then-not-same_token c).In-loop-there) (next-token c.next_token-f.ensures) (next-token c.next_token-t.ensures)
    (sym c.same_token.ensures ∙ c.if-not-same_token.true))

pub loop-there-smaller : goal.loop-there-smaller
loop-there-smaller c =
    let token = next-token c.next_token-f.ensures in
    omega (arith, token.advances (form-left (goal.at.loop-there-smaller c).In-loop-there), token.next_inside)

pub loop-there-preserved : goal.loop-there-preserved
loop-there-preserved c =
    let left = form-left (goal.at.loop-there-preserved c).In-loop-there in
    let form-token = next-token c.next_token-f.ensures in
    let token = next-token c.next_token-t.ensures in
    let same = sym c.same_token.ensures ∙ c.if-not-same_token.false in (
      left-have-bytes left form-token token c.loop-there.invariant.0,
      reached_then c.loop-there.invariant.1 (reached-next c.next_token-t.ensures (follow-left left form-token token c.loop-there.invariant.0 same)),
      c.loop-there.invariant.2 ∙ follow-passed left form-token token same,
    )

pub returns : goal.returns
unfolding place_after
returns c =
    rw (begun (goal.at.returns c).After-start-there ∙ c.loop-there.invariant.2 ∙ follow-end _ _ (sym c.ended.ensures ∙ c.loop-there-test.false))
    (ap Some (reached-place c.loop-there.invariant.1))

pub same_token-requires : goal.same_token-requires
same_token-requires c =
    let form-token = next-token c.next_token-f.ensures in
    let token = next-token c.next_token-t.ensures in
    record { from_le_to = (token.ordered, token.inside); from_le_to_2 = (form-token.ordered, form-token.inside) }
