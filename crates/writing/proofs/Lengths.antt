-- How long a group of numbers is. Assumes nothing.
use mathlib.Core.List.{List, [], ◌∷◌}
use Prim.Native.Nat.{ℕ, ◌+◌, ◌≤◌}
use native.Mathlib.Omega.{arith}
use lib.ListN.{length, length-append}
use Rattle.lists.specs.Sums.{sum_over}
use Rattle.text.proofs.Spaced.{spaced, length-spaced_numbers}
use Rattle.writing.specs.Fields.{group}

pub length-group : (ns : List ℕ) → length (group ns) ≤ 2 + sum_over spaced ns
length-group [] = omega arith
length-group (k ∷ ks) = simp length-append (omega (arith, length-spaced_numbers ks))
