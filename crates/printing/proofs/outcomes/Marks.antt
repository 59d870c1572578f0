-- Each mark of a table that a function is handed is below the bound of its type. Assumes nothing.
use mathlib.Core.List.{List, [], ◌∷◌}
use Prim.Native.Nat.{ℕ, zero, suc, ◌<◌}
use native.Mathlib.Omega.{arith}
use lib.ListN.{get_or}
use mir.Val.{Val}
use denote.Laws.{Is}
use denote.Plain.{UInt}
use denote.Array.{Array, each}
use denote.Shadow.{shadow}
use Rattle.sheet.specs.Limits.{value_bound}
use Rattle.sheet.proofs.Limits.{mark_width}
use Rattle.shares.proofs.Marks.{marks-small}

pub table-small : (n m : ℕ) (table : List (List ℕ)) (vs : List Val) → Is (Array (Array (UInt mark_width) m) n) table vs → (i k : ℕ) → get_or (get_or table i []) k 0 < value_bound
table-small n m table vs told = step table told.0 told.1.1
  where
    step : (rows : List (List ℕ)) (us : List Val) → shadow (each (List ℕ) (Array (UInt mark_width) m).own_val rows us) → (i k : ℕ) → get_or (get_or rows i []) k 0 < value_bound
    step [] us p i k = omega arith
    step (row ∷ rows) [] p i k = absurd p
    step (row ∷ rows) (u ∷ us) p zero k = marks-small m row (u ∷ []) p.0 k
    step (row ∷ rows) (u ∷ us) p (suc i) k = step rows us p.1 i k
