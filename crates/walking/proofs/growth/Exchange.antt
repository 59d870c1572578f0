-- Exchanging the names of two bundles: values are only renamed, so the least bundle is the same. Assumes nothing.
use mathlib.Core.Path.{◌≡◌, refl, sym, ap₂, ◌∙◌}
use mathlib.Core.Bool.{cond}
use mathlib.Core.List.{List, [], ◌∷◌, map}
use Prim.Native.Nat.{ℕ, ◌+◌, ◌≤◌}
use Rattle.lists.proofs.sums.LeastOf.{least_of-cong}
use Rattle.lists.proofs.sums.Exchange.{exchange, exchange-cases, exchange-eqb, least_of-exchange}
use Rattle.maximin.specs.Share.{bundle_value}
use Rattle.reach.specs.Loads.{least_loaded}

module _ (i j : ℕ) where
  bundle_value-exchange : (c : ℕ) (values l : List ℕ) → bundle_value (exchange i j c) values (map (exchange i j) l) ≡ bundle_value c values l
  bundle_value-exchange c [] l = refl
  bundle_value-exchange c (v ∷ values) [] = refl
  bundle_value-exchange c (v ∷ values) (d ∷ l) = ap₂ (λ t s. cond t v 0 + s) (exchange-eqb i j c d) (bundle_value-exchange c values l)

  module _ (n : ℕ) (i-low : 1 ≤ i) (i-high : i ≤ n) (j-low : 1 ≤ j) (j-high : j ≤ n) where
    -- bundles with the same load can be exchanged
    pub least_loaded-exchange : (load : ℕ → ℕ) → load i ≡ load j → (values l : List ℕ) → least_loaded n load values (map (exchange i j) l) ≡ least_loaded n load values l
    least_loaded-exchange load e values l =
        sym (least_of-exchange i j n i-low i-high j-low j-high (λ c. load c + bundle_value c values (map (exchange i j) l)))
        ∙ least_of-cong _ _ n (λ c _ _. ap₂ ◌+◌ (same c) (bundle_value-exchange c values l))
      where
        same : (c : ℕ) → load (exchange i j c) ≡ load c
        same = exchange-cases i j (λ c d. load d ≡ load c) (sym e) e (λ _ _ _. refl)
