-- Amounts compared agent by agent. Assumes nothing.
use mathlib.Core.Path.{◌≡◌, ap₂}
use mathlib.Core.List.{List, Memᴰ as Mem}
use Prim.Native.Nat.{ℕ}
use lib.Dec.{leb}
use Rattle.lists.specs.Lists.{range, nth, all}
use Rattle.lists.proofs.members.Tests.{all-cong}
use Rattle.sheet.specs.Amounts.{each_at_most}

-- the amounts of the first n agents are f and g
pub each_at_most-all : (low high : List ℕ) (f g : ℕ → ℕ) (n : ℕ) → ((i : ℕ) → Mem i (range 1 n) → nth 0 low i ≡ f i) → ((i : ℕ) → Mem i (range 1 n) → nth 0 high i ≡ g i)
    → each_at_most low high n ≡ all (λ i. leb (f i) (g i)) (range 1 n)
each_at_most-all low high f g n lows highs =
    all-cong (λ i. leb (nth 0 low i) (nth 0 high i)) (λ i. leb (f i) (g i)) (range 1 n) (λ i m. ap₂ leb (lows i m) (highs i m))
