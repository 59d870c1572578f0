-- An allocation is exact exactly where it passes the test for grade 3, which is the same by all terms. Assumes nothing.
use mathlib.Core.Path.{◌≡◌, sym, ap, ap₂, ◌∙◌}
use mathlib.Core.List.{List, [], map, Memᴰ as Mem}
use Prim.Native.Nat.{ℕ}
use native.Mathlib.Omega.{arith}
use lib.Dec.{leb}
use Rattle.lists.specs.Lists.{range, nth}
use Rattle.lists.specs.Sums.{total}
use Rattle.lists.proofs.ranges.Ranges.{in-range, nth-mem}
use Rattle.lists.proofs.members.Tests.{all-cong}
use Rattle.lists.proofs.sums.Totals.{map-cong}
use Rattle.sheet.specs.Valuations.{item_value, value}
use Rattle.sheet.specs.Tables.{valuation_of, AgreeInUse}
use Rattle.sheet.specs.Allocations.{Allocates}
use Rattle.sheet.specs.Contents.{Contents, sheet_of, valuations_of}
use Rattle.sheet.proofs.valuing.Tables.{item_value-profile, profile-agree}
use Rattle.maximin.specs.Share.{maximin_share}
use Rattle.shares.proofs.Profile.{nth-shares}
use Rattle.grades.specs.Grade.{maximin_fair}
use Rattle.terms.specs.Terms.{terms_for}
use Rattle.terms.specs.declared.Terms.{Terms}
use Rattle.grades.specs.Scale.{passes_by_terms}
use Rattle.exact_division.specs.Exact.{is_exact}

module _ (sheet : Contents) (bundles : List (List ℕ)) (allocates : Allocates sheet.agents sheet.items bundles) where
  -- an agent's bundle has the same value by the places in use
  bundle-value-profile : (agent : ℕ) → Mem agent (range 1 sheet.agents)
      → value (valuation_of (valuations_of sheet) agent) (nth [] bundles agent) ≡ value (valuation_of sheet.table agent) (nth [] bundles agent)
  bundle-value-profile agent ma =
      ap total (map-cong (item_value (valuation_of (valuations_of sheet) agent)) (item_value (valuation_of sheet.table agent)) (nth [] bundles agent)
      (λ k mk.
      let b = allocates.no_other_item (nth [] bundles agent) (nth-mem [] bundles sheet.agents allocates.bundle_each ma) k mk in
      item_value-profile sheet.agents sheet.items sheet.table ma k (in-range 1 sheet.items k b.0 (omega arith))))

  pub is_exact-passes : (terms : Terms) → is_exact sheet bundles ≡ passes_by_terms sheet terms bundles 3
  unfolding is_exact maximin_fair
  is_exact-passes terms = all-cong _ _ (range 1 sheet.agents) (λ agent ma. ap₂ leb (sym (nth-shares sheet.agents sheet.items sheet.table ma)) (sym (bundle-value-profile agent ma)))

-- only the marks of the places in use count
pub is_exact-agree : (n m : ℕ) (table table' bundles : List (List ℕ)) → Allocates n m bundles → AgreeInUse n m table table'
    → is_exact (sheet_of n m table) bundles ≡ is_exact (sheet_of n m table') bundles
is_exact-agree n m table table' bundles allocates agree =
    is_exact-passes (sheet_of n m table) bundles allocates (terms_for n)
    ∙ ap (λ rows. maximin_fair n rows (map (maximin_share n) rows) bundles) (profile-agree n m table table' agree)
    ∙ sym (is_exact-passes (sheet_of n m table') bundles allocates (terms_for n))
