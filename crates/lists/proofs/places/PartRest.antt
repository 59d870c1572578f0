-- A part at the front of a list: its first member, and the others. Assumes nothing.
use mathlib.Core.Path.{◌≡◌, ap}
use mathlib.Core.List.{List, [], ◌∷◌}
use Prim.Native.Nat.{ℕ, zero, suc, ◌-◌, ◌≤◌}
use native.Mathlib.Omega.{arith}
use lib.ListN.{length, get_or, take, drop}

pub take-first-and-rest : (xs : List ℕ) (n : ℕ) → 1 ≤ n → n ≤ length xs → take n xs ≡ get_or xs 0 0 ∷ take (n - 1) (drop 1 xs)
take-first-and-rest [] n some few = absurd (omega arith)
take-first-and-rest (x ∷ xs) zero some few = absurd (omega arith)
take-first-and-rest (x ∷ xs) (suc n) some few = let e : n ≡ suc n - 1 = omega arith in ap (λ k. x ∷ take k xs) e
