-- The loop's invariant: what is left of the form is to be followed from here.
use mathlib.Core.Path.{◌≡◌}
use mathlib.Core.Bool.{true}
use Prim.Native.Nat.{◌-◌}
use lib.ListN.{length}
use Rattle.lists.specs.Lists.{all}
use Rattle.tokens.specs.Tokenised.{has_byte}
use Rattle.lexing.specs.Forms.{follow}
use Rattle.tokeniser.specs.Places.{tokens_at}
use Rattle.tokeniser.proofs.Behind.{Reached}
use Rattle.lexing.proofs.forms.follow.Given as goal

abbrev pub invariant-loop-there : goal.invariant-loop-there
invariant-loop-there l = (all has_byte (tokens_at l.form l.there) ≡ true) × Reached l.s l.initial.here l.here
    × (follow (tokens_at l.form l.initial.there) (tokens_at l.s l.initial.here) ≡ follow (tokens_at l.form l.there) (tokens_at l.s l.here))

abbrev pub decreases-loop-there : goal.decreases-loop-there
decreases-loop-there l = length l.form - l.there.at
