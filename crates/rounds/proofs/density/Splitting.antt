-- Splitting a list of numbers into n groups that all reach the part top / bottom of β. Assumes nothing.
use mathlib.Core.Path.{◌≡◌, subst}
use mathlib.Core.Logic.{◌⊎◌, inl, inr, ⊎_elim, by_cases}
use mathlib.Core.List.{List, [], ◌∷◌}
use Prim.Native.Nat.{ℕ, zero, suc, ◌+◌, ◌*◌, ◌≤◌}
use native.Mathlib.Nat.{le_refl}
use native.Mathlib.Decide.{dec_le, ℕ_discrete}
use native.Mathlib.Omega.{arith}
use lib.ListN.{length}
use Rattle.lists.specs.Sums.{total}
use Rattle.maximin.specs.Share.{bundle_value}
use Rattle.rounds.proofs.density.Deficit.{deficit}
use Rattle.rounds.proofs.density.Partition.{PartitionByItems, empty, place, partition_by_items-weaken, value_if-same, one_bundle, one_bundle-partition, bundle_value-one_bundle}
use Rattle.rounds.proofs.density.Sort.{Ascending, none, next}
use Rattle.rounds.proofs.density.Refine.{Refines, refines-merge}
use Rattle.rounds.proofs.density.Terms.{top, bottom, Reaches, Short, reaches-mono, short-mono, reaches-of-le, Lacks, lacks-one, lacks-two}

-- a partition of hs into n groups that all reach the part
pub record Splits (N β n : ℕ) (hs : List ℕ) : Type 0 where
  pub partition : List ℕ
  pub is_partition : PartitionByItems n partition hs
  pub reaches : (g : ℕ) → 1 ≤ g → g ≤ n → Reaches N β (bundle_value g hs partition)

-- the members taken two by two, each two with a sum of at least b
abbrev pub PairsReach : ℕ → List ℕ → Type 0
PairsReach b [] = Unit {0}
PairsReach b (x ∷ []) = Unit {0}
PairsReach b (x ∷ y ∷ xs) = (b ≤ x + y) × PairsReach b xs

pub pairs-reach : {lo : ℕ} (b : ℕ) (xs : List ℕ) → b ≤ lo + lo → Ascending lo xs → PairsReach b xs
pairs-reach b [] h none = tt
pairs-reach b (x ∷ []) h (next k none) = tt
pairs-reach b (x ∷ y ∷ xs) h (next k₁ (next k₂ r)) = (omega arith, pairs-reach b xs (omega arith) r)

module _ {N β : ℕ} where
  pub splits-refine : {n : ℕ} {coarse fine : List ℕ} → Refines coarse fine → Splits N β n coarse → Splits N β n fine
  splits-refine {n} f s =
      let r = f n s.partition s.is_partition in
      record { partition = r.partition; is_partition = r.is_partition; reaches = λ g h₁ h₂. rw (r.same_value g) (s.reaches g h₁ h₂) }

  -- one more member, a group of its own
  splits-single : {n : ℕ} {hs : List ℕ} (x : ℕ) → Reaches N β x → Splits N β n hs → Splits N β (suc n) (x ∷ hs)
  splits-single {n} {hs} x h s =
      record {
        partition = suc n ∷ s.partition;
        is_partition = place {c = suc n} (omega arith) (le_refl (suc n)) (partition_by_items-weaken (omega arith) s.is_partition);
        reaches = λ g h₁ h₂.
            by_cases (ℕ_discrete g (suc n))
            (λ e. let all = value_if-same x e in reaches-mono N β {s = x} (omega arith) h)
            (λ d. reaches-mono N β {s = bundle_value g hs s.partition} (omega arith) (s.reaches g h₁ (omega arith)));
      }

  -- two more members, a group of their own
  splits-pair : {n : ℕ} {hs : List ℕ} (x y : ℕ) → β ≤ x + y → Splits N β n hs → Splits N β (suc n) (x ∷ y ∷ hs)
  splits-pair {hs} x y h s = splits-refine (refines-merge x y hs) (splits-single (x + y) (reaches-of-le N h) s)

  splits-none : Splits N β 0 []
  splits-none = record { partition = []; is_partition = empty; reaches = λ g h₁ h₂. absurd (omega arith) }

  -- all members in one group
  splits-whole : (hs : List ℕ) → β ≤ total hs → Splits N β 1 hs
  splits-whole hs h =
      record {
        partition = one_bundle hs;
        is_partition = one_bundle-partition hs (le_refl 1);
        reaches = λ g h₁ h₂. let e : g ≡ 1 = omega arith in rw (e, bundle_value-one_bundle hs) (reaches-of-le N h);
      }

  -- each member a group of its own
  splits-singles : {lo : ℕ} {hs : List ℕ} → Reaches N β lo → Ascending lo hs → Splits N β (length hs) hs
  splits-singles h none = splits-none
  splits-singles h (next {x} le r) = let h' = reaches-mono N β le h in splits-single x h' (splits-singles h' r)

  -- two members or more in each group
  pub splits-many : (n : ℕ) (hs : List ℕ) → 1 ≤ n → n + n ≤ length hs → PairsReach β hs → Splits N β n hs
  splits-many n [] h₁ h₂ r = absurd (omega arith)
  splits-many n (x ∷ []) h₁ h₂ r = absurd (omega arith)
  splits-many zero (x ∷ y ∷ hs) h₁ h₂ r = absurd (omega arith)
  splits-many (suc zero) (x ∷ y ∷ hs) h₁ h₂ r = splits-whole (x ∷ y ∷ hs) (omega arith)
  splits-many (suc (suc n)) (x ∷ y ∷ hs) h₁ h₂ r = splits-pair x y r.0 (splits-many (suc n) hs (omega arith) (omega arith) r.1)

  -- the 2 t smallest members in pairs and the others alone, unless 2 t + 1 members are short
  pub splits-pairs : (t n : ℕ) {lo : ℕ} (hs : List ℕ) → t ≤ n → length hs ≡ n + t → PairsReach β hs → Ascending lo hs
      → Splits N β n hs ⊎ (Short N β lo × Lacks N β (suc (t + t)) (deficit β hs))
  splits-pairs zero n [] h len r none = inl (subst (λ v. Splits N β v []) (omega arith) splits-none)
  splits-pairs zero n (x ∷ hs) h len r (next le asc) =
      by_cases (dec_le (top N * β) (bottom N * x))
      (λ reach. inl (subst (λ v. Splits N β v (x ∷ hs)) (omega arith) (splits-singles reach (next (le_refl x) asc))))
      (λ d. let short : Short N β x = omega arith in inr (short-mono N β le short, lacks-one N β x (deficit β hs) short))
  splits-pairs (suc t) zero hs h len r asc = absurd (omega arith)
  splits-pairs (suc t) (suc n) [] h len r asc = absurd (omega arith)
  splits-pairs (suc t) (suc n) (x ∷ []) h len r asc = absurd (omega arith)
  splits-pairs (suc t) (suc n) (x ∷ y ∷ hs) h len r (next le₁ (next le₂ asc)) =
      ⊎_elim
      (λ s. inl (splits-pair x y r.0 s))
      (λ s. let short = short-mono N β le₂ s.0 in inr (short-mono N β le₁ short, lacks-two N β x y t (deficit β hs) short s.0 s.1))
      (splits-pairs t n hs (omega arith) (omega arith) r.1 asc)
