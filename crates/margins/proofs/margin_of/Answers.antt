use mathlib.Core.Path.{◌≡◌, sym, ap₂, subst, ◌∙◌}
use Prim.Native.Nat.{ℕ, ◌*◌, ◌≤◌, ◌^◌}
use native.Mathlib.Omega.{arith}
use lib.IntN.{pos, ◌-ℤ◌}
use mir.Syntax.{w64}
use mir.Val.{SFits, to_z}
use mir.ValLaws.{to_z_pos, to_z-of_z}
use Rattle.margins.specs.Margins.{margin, greatest_margin}
use Rattle.margins.proofs.Signs.{product_small, difference-small}
use Rattle.margins.proofs.margin_of.Goals as goal
use Rattle.margins.proofs.margin_of.Goals.{After-min-2, After-min-4}

held_fits : (c : After-min-2) → c.min.result * c.min-2.result ≤ greatest_margin
held_fits c = product_small _ _ (omega (arith, c.min.ensures)) (omega (arith, c.min-2.ensures))

promised-fits : (c : After-min-4) → c.min-3.result * c.min-4.result ≤ greatest_margin
promised-fits c = product_small _ _ (omega (arith, c.min-3.ensures)) (omega (arith, c.min-4.ensures))

-- small numbers are read as they are, and their difference fits
read-difference : (a b : ℕ) → a ≤ greatest_margin → b ≤ greatest_margin → to_z w64 a -ℤ to_z w64 b ≡ pos a -ℤ pos b
read-difference a b small small' = ap₂ ◌-ℤ◌ (to_z_pos w64 a (omega arith)) (to_z_pos w64 b (omega arith))

difference-fits : (a b : ℕ) → a ≤ greatest_margin → b ≤ greatest_margin → SFits w64 (to_z w64 a -ℤ to_z w64 b)
difference-fits a b small small' =
    subst (SFits w64) (sym (read-difference a b small small')) (record { sfits = difference-small a b (2 ^ 63) (omega arith) (omega arith) })

pub overflow_mul-held : goal.overflow_mul-held
overflow_mul-held c = record { fits = omega (arith, held_fits c) }

pub overflow_mul-promised : goal.overflow_mul-promised
overflow_mul-promised c = record { fits = omega (arith, promised-fits c) }

pub overflow_cast-result : goal.overflow_cast-result
overflow_cast-result c = record { sfits = omega (arith, held_fits (goal.at.overflow_cast-result c).After-min-2) }

pub overflow_cast-result-2 : goal.overflow_cast-result-2
overflow_cast-result-2 c = record { sfits = omega (arith, promised-fits c) }

pub overflow_sub-result : goal.overflow_sub-result
overflow_sub-result c = difference-fits _ _ (held_fits (goal.at.overflow_sub-result c).After-min-2) (promised-fits c)

pub returns : goal.returns
unfolding margin
returns c =
    let held = held_fits (goal.at.returns c).After-min-2 in
    to_z-of_z w64 _ (difference-fits _ _ held (promised-fits c))
    ∙ read-difference _ _ held (promised-fits c)
    ∙ ap₂ (λ a b. pos a -ℤ pos b) (ap₂ ◌*◌ c.min.ensures c.min-2.ensures) (ap₂ ◌*◌ c.min-3.ensures c.min-4.ensures)
