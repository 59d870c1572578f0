use Prim.Native.Nat.{ℕ}
use native.Mathlib.Omega.{arith}
use lib.ListN.{length-replicate}
use Rattle.lists.proofs.places.Zeros.{get_d-zeros}
use Rattle.exact_levels.proofs.keeping.start.Goals as goal

pub loop-set-init : goal.loop-set-init
loop-set-init c = record { places = length-replicate {A = ℕ} 4096 0; each = λ s lt. absurd (omega arith); small = λ s le. omega (arith, get_d-zeros 4096 s) }
