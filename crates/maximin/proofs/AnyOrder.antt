-- The maximin share does not depend on the order of the values: a partition goes with them. Assumes nothing.
use mathlib.Core.Path.{◌≡◌, refl, sym, ap, ap₂, ◌∙◌}
use mathlib.Core.Bool.{cond}
use mathlib.Core.List.{List, [], ◌∷◌}
use mathlib.Core.List.Permᴰ.{cons as perm-cons}
use mathlib.Core.List.Permᴰ.{nil as perm-nil}
use mathlib.Core.List.Permᴰ.{swap as perm-swap}
use mathlib.Core.List.Permᴰ.{symm as perm-sym}
use mathlib.Core.List.Permᴰ.{trans as perm-trans}
use mathlib.Core.List.{Permᴰ as Perm}
use Prim.Native.Nat.{ℕ, suc, ◌+◌, ◌≤◌}
use native.Mathlib.Nat.{le_antisymm}
use native.Mathlib.Omega.{arith}
use lib.Dec.{eqb}
use lib.ListN.{length}
use Rattle.lists.specs.Lists.{Within}
use Rattle.lists.proofs.sums.LeastOf.{least_of-cong}
use Rattle.maximin.specs.Share.{bundle_value, maximin_share, maximin_partition}
use Rattle.maximin.proofs.Laws.{least_bundle-le-maximin_share, maximin_partition-within, least_bundle-maximin_partition}

module _ (n : ℕ) where
  -- a partition of ys whose bundles are worth what those of the partition l of xs are
  pub record Relaid (xs l ys : List ℕ) : Type 0 where
    pub laid : List ℕ
    pub within : Within n laid
    pub whole : length laid ≡ length ys
    pub worth : (c : ℕ) → bundle_value c ys laid ≡ bundle_value c xs l

  -- the items of the partition change places with the values
  pub perm-relaid : {xs ys : List ℕ} → Perm xs ys → (l : List ℕ) → Within n l → length l ≡ length xs → Relaid xs l ys
  perm-relaid perm-nil l w e = record { laid = l; within = w; whole = e; worth = λ c. refl }
  perm-relaid (perm-cons {a = a} {b = b} same p) [] w e = absurd (omega arith)
  perm-relaid (perm-cons {a = a} {b = b} same p) (d ∷ l) w e =
      let r = perm-relaid p l w.2 (omega arith) in
      record {
        laid = d ∷ r.laid;
        within = (w.0, w.1, r.within);
        whole = ap suc r.whole;
        worth = λ c. ap₂ (λ v s. cond (eqb c d) v 0 + s) (sym same) (r.worth c);
      }
  perm-relaid (perm-swap same other) [] w e = absurd (omega arith)
  perm-relaid (perm-swap same other) (d ∷ []) w e = absurd (omega arith)
  perm-relaid (perm-swap {a = a} {b = b} {a' = a'} {b' = b'} {l = vs} same other) (d ∷ f ∷ l) w e =
      record {
        laid = f ∷ d ∷ l;
        within = (w.2.0, w.2.1, (w.0, w.1, w.2.2));
        whole = e;
        worth = λ c. omega (arith, ap (λ v. cond (eqb c d) v 0) same, ap (λ v. cond (eqb c f) v 0) other);
      }
  perm-relaid (perm-trans p q) l w e =
      let r = perm-relaid p l w e in
      let t = perm-relaid q r.laid r.within r.whole in
      record { laid = t.laid; within = t.within; whole = t.whole; worth = λ c. t.worth c ∙ r.worth c }

  maximin_share-le : {xs ys : List ℕ} → 1 ≤ n → Perm xs ys → maximin_share n xs ≤ maximin_share n ys
  maximin_share-le {xs} {ys} some p =
      let l = maximin_partition n xs in
      let w = maximin_partition-within n xs some in
      let r = perm-relaid p l w.0 w.1 in
      omega (
        arith,
        least_bundle-maximin_partition n xs some,
        least_of-cong (λ c. bundle_value c ys r.laid) (λ c. bundle_value c xs l) n (λ c _ _. r.worth c),
        least_bundle-le-maximin_share n ys r.laid r.within r.whole,
      )

  pub maximin_share-perm : {xs ys : List ℕ} → 1 ≤ n → Perm xs ys → maximin_share n xs ≡ maximin_share n ys
  maximin_share-perm some p = le_antisymm (maximin_share-le some p) (maximin_share-le some (perm-sym p))
