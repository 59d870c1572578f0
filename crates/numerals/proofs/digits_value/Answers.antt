use mathlib.Core.Path.{sym, ap, ◌∙◌}
use native.Mathlib.Omega.{arith}
use lib.ListN.{drop_of_length-le}
use Rattle.numerals.specs.Numerals.{digits_after}
use Rattle.numerals.proofs.Digits.{digit_at, digits_after-drop, below-ten-times, few-digits}
use Rattle.numerals.proofs.digits_value.Goals as goal

pub overflow_mul-n : goal.overflow_mul-n
overflow_mul-n c = omega (arith, few-digits _ _ 18 c.loop-b.invariant.0 (omega arith))

pub overflow_add-n : goal.overflow_add-n
overflow_add-n c =
    omega (arith, few-digits _ _ 18 c.loop-b.invariant.0 (omega arith), (digit_at _ _ c.loop-b-test.true c.loop-b.invariant.1).1)

pub loop-b-preserved : goal.loop-b-preserved
loop-b-preserved c =
    let d = digit_at _ _ c.loop-b-test.true c.loop-b.invariant.1 in
    rw c.from.ensures (below-ten-times _ _ _ c.loop-b.invariant.0 d.1, d.2, c.loop-b.invariant.2 ∙ digits_after-drop _ _ c.loop-b-test.true _)

pub returns : goal.returns
unfolding digits_after
returns c = sym (c.loop-b.invariant.2 ∙ ap (digits_after _) (drop_of_length-le _ c.loop-b-test.false))
