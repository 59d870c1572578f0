-- Lists whose members sum to what 1 .. n sum to, whatever the values: each of 1 .. n stands in exactly one of them. Assumes nothing.
use mathlib.Core.Path.{◌≡◌, refl, ap, ◌∙◌}
use mathlib.Core.List.{List, [], ◌∷◌, map, Memᴰ as Mem}
use Prim.Native.Nat.{ℕ, ◌≤◌}
use native.Mathlib.Omega.{arith}
use lib.Dec.{eqb}
use Rattle.lists.specs.Lists.{range, bit, count, elem}
use Rattle.lists.specs.Sums.{total, sum_over}
use Rattle.lists.proofs.members.Counting.{bit-any}
use Rattle.lists.proofs.members.Distinct.{mem-elem, distinct-count, range-distinct}
use Rattle.lists.proofs.sums.Totals.{sum_over-bit}

module _ (k : ℕ) where
  -- what stands at most once in all lists together stands in as many lists
  count-lists : (lists : List (List ℕ)) → total (map (count (eqb k)) lists) ≤ 1 → count (elem k) lists ≡ total (map (count (eqb k)) lists)
  count-lists [] once = refl
  count-lists (l ∷ lists) once = omega (arith, bit-any (eqb k) l, count-lists lists (omega arith))

  abbrev is_it : ℕ → ℕ
  is_it x = bit (eqb k x)

  count-sums : (lists : List (List ℕ)) → total (map (count (eqb k)) lists) ≡ total (map (sum_over is_it) lists)
  count-sums [] = refl
  count-sums (l ∷ lists) = omega (arith, sum_over-bit (eqb k) l, count-sums lists)

pub in-one-list : (n : ℕ) (lists : List (List ℕ)) → ((w : ℕ → ℕ) → total (map (sum_over w) lists) ≡ sum_over w (range 1 n))
    → (k : ℕ) → Mem k (range 1 n) → count (elem k) lists ≡ 1
in-one-list n lists same k mk = count-lists k lists (omega (arith, once)) ∙ once
  where
    listed-once : count (eqb k) (range 1 n) ≡ 1
    listed-once = omega (arith, bit-any (eqb k) (range 1 n), ap bit (mem-elem mk), distinct-count (range 1 n) (range-distinct 1 n) k)

    once : total (map (count (eqb k)) lists) ≡ 1
    once = count-sums k lists ∙ same (is_it k) ∙ sum_over-bit (eqb k) (range 1 n) ∙ listed-once
