use mathlib.Core.Path.{◌≡◌, refl, sym, ap, ap₂, ◌∙◌}
use mathlib.Core.Bool.{true, false, ◌||◌}
use Prim.Native.Nat.{◌+◌, ◌≤◌}
use native.Mathlib.Omega.{arith}
use lib.ListN.{length, get_or, drop}
use Rattle.std.proofs.lemmas.List.{take_rest}
use Rattle.tokens.specs.TokensAfter.{counts_for_nothing}
use Rattle.tokeniser.specs.NextToken.{in_remark}
use Rattle.tokeniser.specs.internal.Scanned.{remark_bytes}
use Rattle.tokeniser.proofs.Passing.{no-remark-begins, blank-passed, none_passed, none-passed-at-end, remark-within, semicolon-passed}
use Rattle.tokeniser.proofs.scan.token_start.Goals as goal

-- the bytes of the remark, counted in the slice behind the semicolon
module _ (c : goal.After-remark_bytes) where
  counted : c.remark_bytes.result ≡ remark_bytes (drop (c.loop-i.i + 1) c.args.s.now)
  counted = c.remark_bytes.ensures ∙ ap remark_bytes (take_rest c.args.s.now (c.loop-i.i + 1))

  within : c.loop-i.i + 1 + c.remark_bytes.result ≤ length c.args.s.now
  within = rw counted (remark-within c.args.s.now c.loop-i.i c.loop-i-test.true)

pub overflow_add-i-then-begins_remark-2 : goal.overflow_add-i-then-begins_remark-2
overflow_add-i-then-begins_remark-2 c = omega (arith, within c)

pub loop-i-preserved-then-begins_remark : goal.loop-i-preserved-then-begins_remark
loop-i-preserved-then-begins_remark c =
    (within c, c.loop-i.invariant.1 ∙ semicolon-passed _ _ c.loop-i-test.true _ _ (sym c.begins_remark.ensures ∙ c.if-begins_remark.true) (counted c))

pub loop-i-preserved : goal.loop-i-preserved
loop-i-preserved c =
    let byte = get_or c.args.s.now c.loop-i.i 0 in
    let other : in_remark false byte ≡ false = rw (sym c.begins_remark.ensures ∙ c.if-begins_remark.false) refl in
    let counts : (in_remark false byte || counts_for_nothing c.args.begun byte) ≡ true = ap₂ ◌||◌ other (sym c.counts_for_nothing.ensures ∙ c.if-counts_for_nothing.true) in
    (omega arith, c.loop-i.invariant.1 ∙ rw other at (blank-passed c.args.begun false c.args.s.now c.loop-i.i c.loop-i-test.true counts))

pub returns-else-counts_for_nothing : goal.returns-else-counts_for_nothing
returns-else-counts_for_nothing c =
    let byte = get_or c.args.s.now c.loop-i.i 0 in
    let counts : counts_for_nothing c.args.begun byte ≡ false = sym c.counts_for_nothing.ensures ∙ c.if-counts_for_nothing.false in
    let none = ap₂ ◌||◌ (no-remark-begins c.args.begun byte counts) counts in
    sym (c.loop-i.invariant.1 ∙ none_passed _ _ _ _ c.loop-i-test.true none)

pub returns-after-loop-i : goal.returns-after-loop-i
returns-after-loop-i c = sym (c.loop-i.invariant.1 ∙ none-passed-at-end _ _ _ _ c.loop-i-test.false)
