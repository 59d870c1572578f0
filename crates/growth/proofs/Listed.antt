-- The list of growth partitions has those that grow, all of them and no others, each once and in dictionary order. Assumes nothing.
use mathlib.Core.Path.{◌≡◌, refl, ap, subst⁻¹}
use mathlib.Core.List.Memᴰ.{eq_of_singleton as only}
use mathlib.Core.List.Memᴰ.{head as here}
use mathlib.Core.List.Memᴰ.{not-nil}
use mathlib.Core.List.{List, [], ◌∷◌, Memᴰ as Mem}
use Prim.Native.Nat.{ℕ, zero, suc, ◌≤◌, min, max}
use native.Mathlib.Omega.{arith}
use lib.ListN.{length, replicate}
use Rattle.lists.specs.Lists.{range, Pairwise}
use Rattle.lists.specs.Dictionary.{Precedes, Differ}
use Rattle.lists.proofs.ranges.Ranges.{in-range, range-bounds}
use Rattle.lists.proofs.dictionary.Listed.{in-branches, branch-of}
use Rattle.lists.proofs.dictionary.Dictionary.{range-rising, branches-in-order, branches-differ}
use Rattle.growth.specs.Growth.{growth_from, Grows}

-- all of them
pub grows-listed : (n used : ℕ) (l : List ℕ) → Grows n used l → Mem l (growth_from n used (length l))
grows-listed n used [] g = here refl
grows-listed n used (c ∷ l) g =
    in-branches (λ d. growth_from n (max used d) (length l)) (range 1 (min (suc used) n)) (in-range 1 (min (suc used) n) c g.0 (omega (arith, g.1))) (grows-listed n (max used c) l g.2)

-- and no others
pub listed-grows : (n used k : ℕ) {l : List ℕ} → Mem l (growth_from n used k) → Grows n used l × (length l ≡ k)
listed-grows n used zero m = rw (only m) (tt, refl)
listed-grows n used (suc k) m =
    let b = branch-of (λ d. growth_from n (max used d) k) (range 1 (min (suc used) n)) m in
    let r = range-bounds 1 (min (suc used) n) b.head_in in
    let t = listed-grows n (max used b.head) k b.rest_in in
    subst⁻¹ (λ x. Grows n used x × (length x ≡ suc k)) b.parts ((r.0, omega arith, t.0), ap suc t.1)

-- in dictionary order
pub growths-in-order : (n used k : ℕ) → Pairwise Precedes (growth_from n used k)
growths-in-order n used zero = (λ y m. absurd (not-nil m), tt)
growths-in-order n used (suc k) =
    branches-in-order (λ c. growth_from n (max used c) k) (range 1 (min (suc used) n)) (range-rising 1 (min (suc used) n)) (λ c. growths-in-order n (max used c) k)

-- each once
pub growths-differ : (n used k : ℕ) → Pairwise Differ (growth_from n used k)
growths-differ n used zero = (λ y m. absurd (not-nil m), tt)
growths-differ n used (suc k) =
    branches-differ (λ c. growth_from n (max used c) k) (range 1 (min (suc used) n)) (range-rising 1 (min (suc used) n)) (λ c. growths-differ n (max used c) k)

-- all items in bundle 1: the first growth partition
pub growth-inhabited : (n used k : ℕ) → 1 ≤ n → Mem (replicate k 1) (growth_from n used k)
growth-inhabited n used zero some = here refl
growth-inhabited n used (suc k) some =
    in-branches (λ c. growth_from n (max used c) k) (range 1 (min (suc used) n)) (in-range 1 (min (suc used) n) 1 (omega arith) (omega arith)) (growth-inhabited n (max used 1) k some)
