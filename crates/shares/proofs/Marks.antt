-- Marks are small, since their type is: so are the shares of them. Assumes nothing.
use mathlib.Core.List.{List, [], ◌∷◌}
use Prim.Native.Nat.{ℕ, zero, suc, ◌-◌, ◌≤◌, ◌<◌}
use native.Mathlib.Nat.{mul-le-mul_right}
use native.Mathlib.Omega.{arith}
use lib.ListN.{get_or}
use mir.Val.{Val}
use denote.Laws.{Is}
use denote.Plain.{UInt}
use denote.Array.{Array, each}
use denote.Shadow.{shadow}
use Rattle.lists.specs.Lists.{range}
use Rattle.lists.proofs.ranges.Ranges.{length-range}
use Rattle.lists.proofs.sums.Totals.{sum_over-le}
use Rattle.sheet.specs.Limits.{most_items, value_bound, greatest_sum}
use Rattle.sheet.proofs.Limits.{mark_width}
use Rattle.sheet.specs.Valuations.{item_value}
use Rattle.sheet.specs.Tables.{all_values}
use Rattle.maximin.specs.Share.{maximin_share}
use Rattle.maximin.proofs.Laws.{shares-le-total}

-- each mark of a row that a function is handed is below the bound of its type
pub marks-small : (n : ℕ) (row : List ℕ) (vs : List Val) → Is (Array (UInt mark_width) n) row vs → (i : ℕ) → get_or row i 0 < value_bound
marks-small n row vs told = step row told.0 told.1.1
  where
    step : (xs : List ℕ) (us : List Val) → shadow (each ℕ (UInt mark_width).own_val xs us) → (i : ℕ) → get_or xs i 0 < value_bound
    step [] us p i = omega arith
    step (x ∷ xs) [] p i = absurd p
    step (x ∷ xs) (u ∷ us) p zero = p.0.1
    step (x ∷ xs) (u ∷ us) p (suc i) = step xs us p.1 i

-- and so is the share of them
pub share_small : (n m : ℕ) (row : List ℕ) → 1 ≤ n → m ≤ most_items → ((i : ℕ) → get_or row i 0 < value_bound) → maximin_share n (all_values m row) ≤ greatest_sum
share_small n m row some few small =
    omega (
      arith,
      mul-le-mul_right (maximin_share n (all_values m row)) some,
      shares-le-total n (all_values m row) some,
      sum_over-le (item_value row) 1 value_bound (range 1 m) (λ k mk. omega (arith, small (k - 1))),
      length-range 1 m,
    )
