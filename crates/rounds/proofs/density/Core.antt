-- The core lemma: numbers that lack little can be split into n groups that all reach the part top / bottom of β. Assumes nothing.
use mathlib.Core.Path.{◌≡◌}
use mathlib.Core.Logic.{⊎_elim, by_cases}
use mathlib.Core.List.{List, [], ◌∷◌, Permᴰ as Perm}
use Prim.Native.Nat.{ℕ, zero, suc, ◌+◌, ◌*◌, ◌≤◌, ◌<◌, zero-le}
use native.Mathlib.Nat.{le_refl, le_dest, suc-mul, eq-zero-or-pos}
use native.Mathlib.Decide.{dec_le}
use native.Mathlib.Omega.{arith}
use lib.ListN.{length}
use Rattle.lists.proofs.members.Permuted.{length-perm}
use Rattle.rounds.proofs.density.Deficit.{deficit}
use Rattle.rounds.proofs.density.Partition.{one_bundle, one_bundle-partition}
use Rattle.rounds.proofs.density.Sort.{perm-deficit, Ascending, ascending-weaken, next, insert, perm-insert, insert-ascending, sort, perm-sort, sort-ascending}
use Rattle.rounds.proofs.density.Refine.{refines-trans, refines-merge, perm-refines}
use Rattle.rounds.proofs.density.Terms.{top, bottom, reaches-of-le, not-lacks, not-absent}
use Rattle.rounds.proofs.density.Splitting.{Splits, PairsReach, pairs-reach, splits-refine, splits-many, splits-pairs}

-- hs, with e absent members that count as 0, lacks in all at most m times the part top / bottom of β
pub record Supplied (N β n m e : ℕ) (hs : List ℕ) : Type 0 where
  pub groups : 1 ≤ n
  pub few : n + m ≤ N
  pub count : length hs + e ≡ n + m
  pub supply : bottom N * (deficit β hs + e * β) ≤ m * (top N * β)

module _ {N β n m : ℕ} where
  supplied-perm : {e : ℕ} {xs ys : List ℕ} → Perm xs ys → Supplied N β n m e ys → Supplied N β n m e xs
  supplied-perm h s =
      record { groups = s.groups; few = s.few; count = rw (length-perm h) s.count; supply = rw (perm-deficit β h) s.supply }

  -- two members that together do not exceed β may be put together
  supplied-merge : {e a b : ℕ} {hs : List ℕ} → a + b ≤ β → Supplied N β n m e (a ∷ b ∷ hs) → Supplied N β n m (suc e) ((a + b) ∷ hs)
  supplied-merge {e} {a} {b} {hs} h s =
      let same : deficit β ((a + b) ∷ hs) + suc e * β ≡ deficit β (a ∷ b ∷ hs) + e * β = omega (arith, suc-mul e β) in
      record { groups = s.groups; few = s.few; count = omega (arith, s.count); supply = rw same s.supply }

  module _ (positive : 0 < β) where
    -- where the members reach β two by two
    splits-heavy : {e : ℕ} (hs : List ℕ) → Supplied N β n m e hs → PairsReach β hs → Ascending 0 hs → Splits N β n hs
    splits-heavy {e} hs s r asc = by_count (dec_le n (length hs)) (dec_le (n + n) (length hs))
      where
        by_count : Dec (n ≤ length hs) → Dec (n + n ≤ length hs) → Splits N β n hs
        by_count (no h) d = absurd (not-absent N β m e (deficit β hs) positive (omega arith) s.supply)
        by_count (yes h) (yes h₂) = splits-many n hs s.groups h₂ r
        by_count (yes h) (no h₂) =
            let t = le_dest h in
            ⊎_elim
            (λ split. split)
            (λ short. absurd (not-lacks N β n m t.0 e (deficit β hs) (omega arith) s.few (omega arith) s.supply short.1))
            (splits-pairs t.0 n hs (omega arith) (omega arith) r asc)

    -- the claim for hs, from the claim for shorter lists
    splits-step : {e : ℕ} (hs : List ℕ)
        → ((e' : ℕ) (hs' : List ℕ) → length hs' < length hs → Supplied N β n m e' hs' → Ascending 0 hs' → Splits N β n hs')
        → Supplied N β n m e hs → Ascending 0 hs → Splits N β n hs
    splits-step [] below s asc = splits-heavy [] s tt asc
    splits-step (a ∷ []) below s asc = splits-heavy (a ∷ []) s tt asc
    splits-step {e} (a ∷ b ∷ hs) below s (next le₁ (next le₂ asc)) = by_cases (dec_le (a + b) β) light heavy
      where
        inserted : Perm (insert (a + b) hs) ((a + b) ∷ hs)
        inserted = perm-insert (a + b) hs

        merged : a + b ≤ β → Splits N β n (insert (a + b) hs)
        merged h =
            below (suc e) (insert (a + b) hs) (omega (arith, length-perm inserted))
            (supplied-perm inserted (supplied-merge h s)) (insert-ascending (a + b) zero-le (ascending-weaken zero-le asc))

        light : a + b ≤ β → Splits N β n (a ∷ b ∷ hs)
        light h = splits-refine (refines-trans (perm-refines inserted) (refines-merge a b hs)) (merged h)

        heavy : ¬ (a + b ≤ β) → Splits N β n (a ∷ b ∷ hs)
        heavy h = splits-heavy (a ∷ b ∷ hs) s (omega arith, pairs-reach β hs (omega arith) asc) (next le₁ (next le₂ asc))

    splits-ascending : (ℓ e : ℕ) (hs : List ℕ) → length hs ≤ ℓ → Supplied N β n m e hs → Ascending 0 hs → Splits N β n hs
    splits-ascending zero e hs h = splits-step hs (λ e' hs' lt. absurd (omega arith))
    splits-ascending (suc ℓ) e hs h = splits-step hs (λ e' hs' lt. splits-ascending ℓ e' hs' (omega arith))

  -- the core lemma
  pub splits-supplied : {e : ℕ} (hs : List ℕ) → Supplied N β n m e hs → Splits N β n hs
  splits-supplied {e} hs s = ⊎_elim at_zero above_zero (eq-zero-or-pos β)
    where
      at_zero : β ≡ 0 → Splits N β n hs
      at_zero z = record { partition = one_bundle hs; is_partition = one_bundle-partition hs s.groups; reaches = λ g h₁ h₂. reaches-of-le N (omega arith) }

      above_zero : 0 < β → Splits N β n hs
      above_zero positive =
          splits-refine (perm-refines (perm-sort hs))
          (splits-ascending positive (length (sort hs)) e (sort hs) (le_refl (length (sort hs))) (supplied-perm (perm-sort hs) s) (sort-ascending hs))
