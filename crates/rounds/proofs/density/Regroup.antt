-- Regrouping: a partition of the values of the bundles is carried out by the values of the items themselves. Assumes nothing.
use mathlib.Core.Path.{◌≡◌, refl, sym, ◌∙◌, ap₂}
use mathlib.Core.Logic.{ite}
use mathlib.Core.List.Memᴰ.{head as here}
use mathlib.Core.List.Memᴰ.{tail as there}
use mathlib.Core.List.{List, [], ◌∷◌, map, Memᴰ as Mem}
use Prim.Native.Nat.{ℕ, zero, suc, ◌+◌, ◌≤◌, ◌<◌}
use native.Mathlib.Nat.{le_refl}
use native.Mathlib.Decide.{ℕ_discrete}
use native.Mathlib.Omega.{arith}
use lib.ListN.{length, length-map}
use Rattle.lists.specs.Lists.{range}
use Rattle.lists.specs.Sums.{total}
use Rattle.lists.proofs.ranges.Ranges.{range-bounds, length-range}
use Rattle.maximin.specs.Share.{bundle_value}
use Rattle.rounds.proofs.density.Partition.{PartitionByItems, empty, place, partition_by_items-length, value_if, value_if-same, value_if-other, value_if-le, value_if-add, bundle_value-le-total, one_bundle, one_bundle-partition, bundle_value-one_bundle}
use Rattle.rounds.proofs.density.Refine.{Refines}

-- the values of the bundles 1 .. n of a partition
abbrev pub bundle_values : ℕ → List ℕ → List ℕ → List ℕ
bundle_values n values l = map (λ c. bundle_value c values l) (range 1 n)

pub length-bundle_values : (n : ℕ) (values l : List ℕ) → length (bundle_values n values l) ≡ n
length-bundle_values n values l = length-map (range 1 n) (λ c. bundle_value c values l) ∙ length-range 1 n

-- the group of bundle c, where G lists the groups of the bundles from s on
group_of : ℕ → List ℕ → ℕ → ℕ
group_of s [] c = 0
group_of s (g ∷ G) c = ite (ℕ_discrete s c) g (group_of (suc s) G c)

group_of-range : {n : ℕ} {G hs : List ℕ} (s c : ℕ) → PartitionByItems n G hs → s ≤ c → c < s + length hs → (1 ≤ group_of s G c) × (group_of s G c ≤ n)
unfolding group_of
group_of-range s c empty h k = absurd (omega arith)
group_of-range {n} s c (place {c = g} {l = G} h₁ h₂ r) h k =
    elim (ℕ_discrete s c) as (λ d. (1 ≤ ite d g (group_of (suc s) G c)) × (ite d g (group_of (suc s) G c) ≤ n))
    [ yes e ↦ (h₁, h₂) | no d ↦ group_of-range (suc s) c r (omega arith) (omega arith) ]

regroup-partition : {n N : ℕ} {l values G hs : List ℕ} → PartitionByItems N l values → PartitionByItems n G hs → length hs ≡ N → PartitionByItems n (map (group_of 1 G) l) values
regroup-partition empty g e = empty
regroup-partition (place {c} h k r) g e =
    let range = group_of-range 1 c g h (omega arith) in
    place range.0 range.1 (regroup-partition r g e)

bundle_value-zero : (c : ℕ) (cs G : List ℕ) (f : ℕ → ℕ) → ((i : ℕ) → Mem i cs → f i ≡ 0) → bundle_value c (map f cs) G ≡ 0
bundle_value-zero c [] G f h = refl
bundle_value-zero c (i ∷ cs) [] f h = refl
bundle_value-zero c (i ∷ cs) (g ∷ G) f h =
    let first = h i (here refl) in
    let rest = bundle_value-zero c cs G f (λ j m. h j (there m)) in
    omega (arith, value_if-le c g (f i))

bundle_value-add : (c : ℕ) (cs G : List ℕ) (f g : ℕ → ℕ) → bundle_value c (map (λ i. f i + g i) cs) G ≡ bundle_value c (map f cs) G + bundle_value c (map g cs) G
bundle_value-add c [] G f g = refl
bundle_value-add c (i ∷ cs) [] f g = refl
bundle_value-add c (i ∷ cs) (d ∷ G) f g = let rest = bundle_value-add c cs G f g in omega (arith, value_if-add c d (f i) (g i))

bundle_value-beyond : (x d c s n : ℕ) (G : List ℕ) → d < s → bundle_value c (map (λ i. value_if i d x) (range s n)) G ≡ 0
bundle_value-beyond x d c s n G h =
    bundle_value-zero c (range s n) G (λ i. value_if i d x) (λ i m. let bounds = range-bounds s n m in value_if-other {c = i} {d = d} x (omega arith))

-- a value that is alone in bundle d is alone in the group of d
bundle_value-alone : (x d c s n : ℕ) (G : List ℕ) → length G ≡ n → s ≤ d → d < s + n
    → bundle_value c (map (λ i. value_if i d x) (range s n)) G ≡ value_if c (group_of s G d) x
unfolding group_of
bundle_value-alone x d c s zero G e h k = absurd (omega arith)
bundle_value-alone x d c s (suc n) [] e h k = absurd (omega arith)
bundle_value-alone x d c s (suc n) (g ∷ G) e h k =
    elim (ℕ_discrete s d) as (λ dec. value_if c g (value_if s d x) + bundle_value c (map (λ i. value_if i d x) (range (suc s) n)) G ≡ value_if c (ite dec g (group_of (suc s) G d)) x) [
      | yes q ↦ rw (value_if-same {c = s} {d = d} x q) (omega (arith, bundle_value-beyond x d c (suc s) n G (omega arith)))
      | no ne ↦ rw (value_if-other {c = s} {d = d} x ne) (omega (arith, value_if-le c g 0, bundle_value-alone x d c (suc s) n G (omega arith) (omega arith) (omega arith)))
    ]

bundle_value-regroup : {N : ℕ} {l values : List ℕ} (G : List ℕ) (c : ℕ) → length G ≡ N → PartitionByItems N l values
    → bundle_value c values (map (group_of 1 G) l) ≡ bundle_value c (bundle_values N values l) G
bundle_value-regroup {N} G c e empty = sym (bundle_value-zero c (range 1 N) G (λ i. 0) (λ i m. refl))
bundle_value-regroup {N} G c e (place {c = d} {x} {l} {values} h k r) =
    ap₂ ◌+◌ (sym (bundle_value-alone x d c 1 N G e h (omega arith))) (bundle_value-regroup G c e r)
    ∙ sym (bundle_value-add c (range 1 N) G (λ i. value_if i d x) (λ i. bundle_value i values l))

pub refines-bundle_values : {N : ℕ} {l values : List ℕ} → PartitionByItems N l values → Refines (bundle_values N values l) values
refines-bundle_values {N} {l} {values} r n G g =
    record {
      partition = map (group_of 1 G) l;
      is_partition = regroup-partition r g (length-bundle_values N values l);
      same_value = λ c. bundle_value-regroup G c (partition_by_items-length g ∙ length-bundle_values N values l) r;
    }

-- by regrouping the bundles into one
pub total-bundle_values-le : {n : ℕ} {l values : List ℕ} → PartitionByItems n l values → total (bundle_values n values l) ≤ total values
total-bundle_values-le {n} {l} {values} r =
    let vs = bundle_values n values l in
    let one = refines-bundle_values r 1 (one_bundle vs) (one_bundle-partition vs (le_refl 1)) in
    omega (arith, one.same_value 1, bundle_value-one_bundle vs, bundle_value-le-total 1 values one.partition)
