-- At a place of a list stands the same, whatever counts as standing beyond its end. Assumes nothing.
use mathlib.Core.Path.{◌≡◌, refl}
use mathlib.Core.List.{List, [], ◌∷◌}
use Prim.Native.Nat.{ℕ, zero, suc, ◌<◌}
use native.Mathlib.Omega.{arith}
use lib.ListN.{length, get_or}

pub get_d_default : {A : Type 0} (d e : A) (l : List A) (i : ℕ) → i < length l → get_or l i d ≡ get_or l i e
get_d_default d e [] i lt = absurd (omega arith)
get_d_default d e (x ∷ l) zero lt = refl
get_d_default d e (x ∷ l) (suc i) lt = get_d_default d e l i (omega arith)
