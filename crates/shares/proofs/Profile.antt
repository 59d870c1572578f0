-- The share and the cut of an agent, by the places in use of a table and by the table. Assumes nothing.
use mathlib.Core.Path.{◌≡◌, ap, ◌∙◌}
use mathlib.Core.List.{List, [], map, map-map, Memᴰ as Mem}
use mathlib.Core.List.Sublistᴰ.{refl as sublist-refl}
use Prim.Native.Nat.{ℕ}
use Rattle.lists.specs.Lists.{range, nth}
use Rattle.lists.proofs.ranges.Ranges.{nth-map-range}
use Rattle.sheet.specs.Tables.{valuation_of, all_values, profile}
use Rattle.sheet.proofs.valuing.Tables.{values-profile}
use Rattle.sheet.specs.Contents.{sheet_of}
use Rattle.maximin.specs.Share.{maximin_share, maximin_partition}
use Rattle.shares.specs.Shares.{share_of}

module _ (n m : ℕ) (table : List (List ℕ)) {agent : ℕ} (in_use : Mem agent (range 1 n)) where
  pub nth-shares : nth 0 (map (maximin_share n) (profile n m table)) agent ≡ share_of (sheet_of n m table) agent
  unfolding profile
  nth-shares =
      ap (λ l. nth 0 l agent) (map-map (maximin_share n) (λ i. all_values m (valuation_of table i)) (range 1 n))
      ∙ nth-map-range (λ i. share_of (sheet_of n m table) i) 0 n in_use

  pub nth-cuts : nth [] (map (maximin_partition n) (profile n m table)) agent ≡ maximin_partition n (all_values m (valuation_of table agent))
  unfolding profile
  nth-cuts =
      ap (λ l. nth [] l agent) (map-map (maximin_partition n) (λ i. all_values m (valuation_of table i)) (range 1 n))
      ∙ nth-map-range (λ i. maximin_partition n (all_values m (valuation_of table i))) [] n in_use

  pub share_of-profile : share_of (sheet_of n m (profile n m table)) agent ≡ share_of (sheet_of n m table) agent
  share_of-profile = ap (maximin_share n) (values-profile n m table in_use (sublist-refl (range 1 m)))
