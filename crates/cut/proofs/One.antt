-- The cut into one bundle: there is one partition, all items in bundle 1, and the share is the value of all of them. Assumes nothing.
use mathlib.Core.Path.{◌≡◌, refl, sym, ap, ◌∙◌}
use mathlib.Core.List.{List, [], ◌∷◌, ◌++◌, map}
use Prim.Native.Nat.{ℕ, zero, suc, ◌+◌, ◌≤◌, min, max}
use native.Mathlib.Omega.{arith}
use lib.ListN.{length, replicate}
use borrow.Author.Tests.{eq-eqb}
use Rattle.lists.specs.Lists.{range}
use Rattle.lists.specs.Sums.{total}
use Rattle.lists.specs.Dictionary.{branches, greatest, first_best}
use Rattle.growth.specs.Growth.{growth_from, growths}
use Rattle.maximin.specs.Share.{bundle_value, least_bundle, maximin_share, maximin_partition}
use Rattle.cut.proofs.Allowance.{greatest-growth, first_best-growth}

-- so many items, all in bundle 1
abbrev in_first : ℕ → List ℕ
in_first k = replicate k 1

-- the same as a row of places that is filled from its front
pub map-ones : (i k : ℕ) → map (λ _. 1) (range i k) ≡ in_first k
map-ones i zero = refl
map-ones i (suc k) = ap (λ l. 1 ∷ l) (map-ones (suc i) k)

-- there is no other growth partition
growth-one : (used k : ℕ) → used ≤ 1 → growth_from 1 used k ≡ in_first k ∷ []
growth-one used zero few = refl
growth-one used (suc k) few =
    let one : min (suc used) 1 ≡ 1 = omega arith in
    let used-then : max used 1 ≡ 1 = omega arith in
    ap (λ m. branches (λ c. growth_from 1 (max used c) k) (range 1 m)) one
    ∙ ap (λ u. map (λ l. 1 ∷ l) (growth_from 1 u k) ++ []) used-then
    ∙ ap (λ ls. map (λ l. 1 ∷ l) ls ++ []) (growth-one 1 k (omega arith))

pub growths-one : (k : ℕ) → growths 1 k ≡ 1
unfolding growths
growths-one k = ap length (growth-one 0 k (omega arith))

bundle_value-all : (values : List ℕ) → bundle_value 1 values (in_first (length values)) ≡ total values
bundle_value-all [] = refl
bundle_value-all (v ∷ values) = ap (λ sum. v + sum) (bundle_value-all values)

module _ (values : List ℕ) where
  pub maximin_share-one : maximin_share 1 values ≡ total values
  maximin_share-one =
      sym (greatest-growth 1 values (omega arith))
      ∙ ap (greatest (least_bundle 1 values)) (growth-one 0 (length values) (omega arith))
      ∙ omega (arith, bundle_value-all values)

  pub maximin_partition-one : maximin_partition 1 values ≡ in_first (length values)
  maximin_partition-one =
      let least = least_bundle 1 values (in_first (length values)) in
      sym (first_best-growth 1 values (omega arith))
      ∙ ap (first_best (least_bundle 1 values)) (growth-one 0 (length values) (omega arith))
      ∙ rw (eq-eqb least (max least 0) (omega arith))
