use mathlib.Core.Path.{◌≡◌, refl, ap, ◌∙◌}
use Prim.Native.Nat.{min}
use native.Mathlib.Omega.{arith}
use lib.IntN.{pos}
use lib.IntN.{ℤ, negsuc}
use lib.Signed.{non_neg, le_z}
use mir.Syntax.{w64}
use mir.ValLaws.{to_z-of_z}
use borrow.Author.Tests.{le-leb}
use Rattle.sheet.specs.Limits.{greatest_sum}
use Rattle.sheet.specs.Sets.{items_of}
use Rattle.sheet.specs.Valuations.{value}
use Rattle.margins.specs.Margins.{margin, limited_terms}
use Rattle.margins.proofs.Signs.{non_neg-margin}
use Rattle.settling.proofs.suiting.set_suits.Goals as goal

-- the test of the code
at-least-zero : (z : ℤ) → le_z (pos 0) z ≡ non_neg z
at-least-zero (pos n) = le-leb 0 n (omega arith)
at-least-zero (negsuc n) = refl

pub returns : goal.returns
returns c =
    let a = c.args in
    let z = c.margin_of.result in
    let terms = limited_terms a.terms in
    let worth = c.value_of.result in
    let share = min a.share greatest_sum in
    let whole : min worth greatest_sum ≡ worth = omega (arith, c.value_of.ensures.1) in
    ap (le_z (pos 0)) (to_z-of_z w64 z (record { sfits = c.margin_of.type_inv }))
    ∙ at-least-zero z
    ∙ ap non_neg (c.margin_of.ensures ∙ ap (λ w. margin terms w share) (whole ∙ c.value_of.ensures.0))
    ∙ non_neg-margin terms (value a.valuation (items_of a.set)) share
