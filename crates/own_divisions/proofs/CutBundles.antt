-- The least bundle of a partition of the items 1 .. m is what the partition says, by the marks of the items. Assumes nothing.
use mathlib.Core.Path.{◌≡◌, sym, ap, ◌∙◌}
use mathlib.Core.List.{List, []}
use Prim.Native.Nat.{ℕ, ◌≤◌}
use native.Mathlib.Omega.{arith}
use lib.Dec.{eqb}
use Rattle.lists.specs.Lists.{range, nth}
use Rattle.lists.specs.Sums.{least_of}
use Rattle.lists.proofs.ranges.Ranges.{in-range, nth-map-range}
use Rattle.lists.proofs.sums.LeastOf.{least_of-cong}
use Rattle.sheet.specs.Valuations.{item_value, value}
use Rattle.sheet.specs.Tables.{all_values}
use Rattle.sheet.proofs.valuing.Tables.{value-all_values}
use Rattle.maximin.specs.Share.{bundle_value, least_bundle}
use Rattle.bundling.specs.Bundles.{bundle, all_bundles}
use Rattle.bundling.proofs.Bundles.{items_in-sublist}
use Rattle.bundling.proofs.Sums.{bundle_value-items}

pub least_of-all_bundles : (m : ℕ) (row : List ℕ) (n : ℕ) (partition : List ℕ)
    → least_of (λ c. value (all_values m row) (nth [] (all_bundles n m partition) c)) n ≡ least_bundle n (all_values m row) partition
least_of-all_bundles m row n partition =
    least_of-cong (λ c. value (all_values m row) (nth [] (all_bundles n m partition) c)) (λ c. bundle_value c (all_values m row) partition) n same
  where
    same : (c : ℕ) → 1 ≤ c → c ≤ n → value (all_values m row) (nth [] (all_bundles n m partition) c) ≡ bundle_value c (all_values m row) partition
    same c lo hi =
        ap (value (all_values m row)) (nth-map-range (bundle (range 1 m) partition) [] n (in-range 1 n c lo (omega arith)))
        ∙ value-all_values m row (items_in-sublist (eqb c) (range 1 m) partition)
        ∙ sym (bundle_value-items (item_value row) c (range 1 m) partition)
