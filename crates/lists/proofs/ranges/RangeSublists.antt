-- Sub-lists of 1 .. n: their entries lie in 1 .. n and rise, none stands twice, and they are at most n; and numbers of 1 .. n that rise are
-- a sub-list. Assumes nothing.
use mathlib.Core.Path.{◌≡◌, refl, sym}
use mathlib.Core.Bool.{true}
use mathlib.Core.Logic.{⊎_elim}
use mathlib.Core.List.Memᴰ.{cases_cons}
use mathlib.Core.List.Memᴰ.{head as here}
use mathlib.Core.List.Memᴰ.{tail as there}
use mathlib.Core.List.{List, [], ◌∷◌, Memᴰ as Mem}
use mathlib.Core.List.Sublistᴰ.{cons as skip}
use mathlib.Core.List.Sublistᴰ.{cons-cons as keep}
use mathlib.Core.List.Sublistᴰ.{nil-sublist}
use mathlib.Core.List.{Sublistᴰ as Sublist}
use Prim.Native.Nat.{ℕ, zero, suc, ◌+◌, ◌≤◌, ◌<◌}
use native.Mathlib.Nat.{eq-or-lt_of_le}
use native.Mathlib.Omega.{arith}
use lib.ListN.{length}
use Rattle.lists.specs.Lists.{range, distinct, Within, Rising}
use Rattle.lists.proofs.ranges.Ranges.{length-range, mem-within}
use Rattle.lists.proofs.members.Counting.{sublist-mem, count-sublist, length-sublist}
use Rattle.lists.proofs.members.Distinct.{submultiset-distinct, range-distinct}
use Rattle.lists.proofs.dictionary.Dictionary.{range-rising, pairwise-sublist}

module _ (n : ℕ) {l : List ℕ} (s : Sublist l (range 1 n)) where
  pub range-sublist-within : Within n l
  range-sublist-within = mem-within n l (λ c m. sublist-mem s m)

  pub range-sublist-distinct : distinct l ≡ true
  range-sublist-distinct = submultiset-distinct l (range 1 n) (count-sublist s) (range-distinct 1 n)

  pub range-sublist-few : length l ≤ n
  range-sublist-few = omega (arith, length-sublist s, length-range 1 n)

  pub range-sublist-rising : Rising l
  range-sublist-rising = pairwise-sublist (λ x y. x < y) s (range-rising 1 n)

rising-sublist-from : (i n : ℕ) (l : List ℕ) → Rising l → ((k : ℕ) → Mem k l → (i ≤ k) × (k < i + n)) → Sublist l (range i n)
rising-sublist-from i n [] rising each = nil-sublist (range i n)
rising-sublist-from i zero (k ∷ l) rising each = absurd (omega (arith, each k (here refl)))
rising-sublist-from i (suc n) (k ∷ l) rising each =
    ⊎_elim
    (λ e. keep (sym e) (rising-sublist-from (suc i) n l rising.1 (λ j m. omega (arith, rising.0 j m, each j (there m)))))
    (λ (lt : i < k). skip (rising-sublist-from (suc i) n (k ∷ l) rising
    (λ j m. (⊎_elim (λ (e : j ≡ k). omega arith) (λ later. omega (arith, rising.0 j later)) (cases_cons m), omega (arith, each j m)))))
    (eq-or-lt_of_le (each k (here refl)).0)

-- numbers of 1 .. n that rise
pub rising-range-sublist : (n : ℕ) (l : List ℕ) → Rising l → ((k : ℕ) → Mem k l → (1 ≤ k) × (k ≤ n)) → Sublist l (range 1 n)
rising-range-sublist n l rising each = rising-sublist-from 1 n l rising (λ k m. omega (arith, each k m))
