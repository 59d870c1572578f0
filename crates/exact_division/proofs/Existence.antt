-- `exact_exists` is true exactly where there is an exact division. Assumes nothing.
use mathlib.Core.Path.{◌≡◌, ap, ◌∙◌}
use mathlib.Core.Bool.{true}
use mathlib.Core.Logic.{◌↔◌}
use mathlib.Core.List.{List, Memᴰ as Mem}
use Prim.Native.Nat.{ℕ}
use Rattle.lists.proofs.ranges.RangeSublists.{rising-range-sublist}
use Rattle.lists.proofs.members.Counting.{mem-any, any-mem}
use Rattle.sheet.specs.Contents.{Contents}
use Rattle.maximin.specs.Partitions.{partitions}
use Rattle.exact_division.specs.Exact.{is_exact, bundles_by, exact_exists, ExactDivision}
use Rattle.exact_division.proofs.Giving.{bundles_by-rising, bundles_by-allocates}
use Rattle.exact_division.proofs.Holders.{holders-listed, bundles_by-holders}

module _ (sheet : Contents) where
  -- the holders of the items of an exact division are one of the ways that `exact_exists` tries
  pub exact-division-exists : (bundles : List (List ℕ)) → ExactDivision sheet bundles → exact_exists sheet ≡ true
  unfolding exact_exists
  exact-division-exists bundles d =
      mem-any (λ agents. is_exact sheet (bundles_by sheet.agents sheet.items agents)) (holders-listed sheet.agents sheet.items bundles d.allocates)
      (ap (is_exact sheet) (bundles_by-holders sheet.agents sheet.items bundles d.allocates
      (λ bundle mb. rising-range-sublist sheet.items bundle (d.items_rise bundle mb) (d.allocates.no_other_item bundle mb)))
      ∙ d.shares_reached)

  -- one of the ways that it tries makes bundles that reach the shares
  pub exists-giving : exact_exists sheet ≡ true → (agents : List ℕ) × Mem agents (partitions sheet.agents sheet.items) × (is_exact sheet (bundles_by sheet.agents sheet.items agents) ≡ true)
  unfolding exact_exists
  exists-giving = any-mem (λ agents. is_exact sheet (bundles_by sheet.agents sheet.items agents)) (partitions sheet.agents sheet.items)

  -- these bundles are an exact division
  pub exists-exact-division : exact_exists sheet ≡ true → (bundles : List (List ℕ)) × ExactDivision sheet bundles
  exists-exact-division exists =
      let (agents, listed, exact) = exists-giving exists in (
        bundles_by sheet.agents sheet.items agents,
        record {
          allocates = bundles_by-allocates sheet.agents sheet.items agents listed;
          items_rise = bundles_by-rising sheet.agents sheet.items agents;
          shares_reached = exact;
        },
      )

  pub exact_exists-iff : (exact_exists sheet ≡ true) ↔ ((bundles : List (List ℕ)) × ExactDivision sheet bundles)
  exact_exists-iff = (exists-exact-division, λ d. exact-division-exists d.0 d.1)
