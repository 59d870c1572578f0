-- Margins that a function is handed are whole numbers of 64 bits. Assumes nothing.
use mathlib.Core.List.{List, [], ◌∷◌}
use Prim.Native.Nat.{ℕ, zero, suc}
use native.Mathlib.Omega.{arith}
use lib.IntN.{ℤ, pos}
use lib.ListN.{get_or}
use mir.Syntax.{w64}
use mir.Val.{Val}
use denote.Laws.{Is}
use denote.Array.{Array, each}
use denote.Signed.{SInt}
use denote.Shadow.{shadow}
use Rattle.sheet_to_judgement.proofs.Texts.{Small}

pub margins-fit : (n : ℕ) (margins : List ℤ) (vs : List Val) → Is (Array (SInt w64) n) margins vs → (i : ℕ) → Small (get_or margins i (pos 0))
margins-fit n margins vs told = step margins told.0 told.1.1
  where
    step : (zs : List ℤ) (us : List Val) → shadow (each ℤ (SInt w64).own_val zs us) → (i : ℕ) → Small (get_or zs i (pos 0))
    step [] us p i = omega arith
    step (z ∷ zs) [] p i = absurd p
    step (z ∷ zs) (u ∷ us) p zero = p.0.1
    step (z ∷ zs) (u ∷ us) p (suc i) = step zs us p.1 i
