-- No envy implies even, even implies the whole share, and the whole share implies that no margin is below zero: for every table, n agents
-- (yards), m items (pieces) and any marks. Assumes nothing.
use mathlib.Core.Path.{◌≡◌, ap, ◌∙◌}
use mathlib.Core.Bool.{true}
use mathlib.Core.List.{List, [], map, map-map, Memᴰ as Mem}
use Prim.Native.Nat.{ℕ, ◌*◌, ◌≤◌}
use native.Mathlib.Nat.{mul-le-mul, le_of_mul-le-mul_left}
use native.Mathlib.Omega.{arith}
use lib.ListN.{length, length-map}
use borrow.Author.Tests.{le-leb, leb-true}
use Rattle.lists.specs.Lists.{range, nth, elem}
use Rattle.lists.specs.Sums.{total, sum_over}
use Rattle.lists.proofs.ranges.Ranges.{range-bounds, length-range, map-nth-range}
use Rattle.lists.proofs.members.Counting.{counted-any, mem-all, all-mem}
use Rattle.lists.proofs.sums.Totals.{sum_over-le}
use Rattle.lists.proofs.sums.Covering.{covering-le}
use Rattle.sheet.specs.Valuations.{item_value}
use Rattle.sheet.specs.Tables.{valuation_of, all_values, profile}
use Rattle.sheet.specs.Allocations.{Allocates}
use Rattle.sheet.proofs.valuing.Tables.{valuation_of-profile}
use Rattle.maximin.proofs.Laws.{shares-le-total}
use Rattle.sheet.specs.Contents.{sheet_of}
use Rattle.shares.specs.Shares.{shares_of}
use Rattle.shares.proofs.Profile.{nth-shares}
use Rattle.terms.specs.declared.Terms.{Terms}
use Rattle.margins.specs.Margins.{margins_of, none_negative}
use Rattle.grades.specs.Grade.{own_values, value_to, envy_free, proportional, maximin_fair}
use Rattle.grades.proofs.NoneNegative.{none_negative-own}

module _ (n m : ℕ) (table bundles : List (List ℕ)) where
  -- the marks in use
  abbrev rows : List (List ℕ)
  rows = profile n m table

  -- what agent i's valuation says of agent j's bundle
  abbrev seen : ℕ → ℕ → ℕ
  seen = value_to rows bundles

  module _ (allocates : Allocates n m bundles) where
    -- all items are worth no more than the bundles together, since each item is in one
    total-le-bundles : (i : ℕ) → Mem i (range 1 n) → total (valuation_of rows i) ≤ sum_over (seen i) (range 1 n)
    total-le-bundles i mi =
        let w : ℕ → ℕ = item_value (valuation_of rows i) in
        let places : length (valuation_of rows i) ≡ m = ap length (valuation_of-profile n m table mi) ∙ length-map (range 1 m) (item_value (valuation_of table i)) ∙ length-range 1 m in
        omega (
          arith,
          ap total (map-nth-range 0 (valuation_of rows i) m places),
          covering-le w m bundles (λ k lo hi. counted-any (elem k) bundles (omega (arith, allocates.item_in_one_bundle k lo hi))),
          ap (λ l. total (map (sum_over w) l)) (map-nth-range [] bundles n allocates.bundle_each),
          ap total (map-map (sum_over w) (nth [] bundles) (range 1 n)),
        )

    -- the n bundles that an agent sees are each worth at most its own, and together they are worth all items
    pub envy_free-proportional : envy_free n rows bundles ≡ true → proportional n rows bundles ≡ true
    unfolding envy_free proportional
    envy_free-proportional free = mem-all _ (range 1 n) (λ i mi. le-leb _ _ (even i mi))
      where
        most : (i : ℕ) → Mem i (range 1 n) → (j : ℕ) → Mem j (range 1 n) → 1 * seen i j ≤ seen i i
        most i mi j mj = omega (arith, leb-true (seen i j) (seen i i) (all-mem _ (all-mem _ free mi) mj))

        even : (i : ℕ) → Mem i (range 1 n) → total (valuation_of rows i) ≤ n * seen i i
        even i mi = omega (arith, total-le-bundles i mi, sum_over-le (seen i) 1 (seen i i) (range 1 n) (most i mi), ap (λ k. k * seen i i) (length-range 1 n))

  -- n times the share is at most the total, and so at most n times the value of the bundle; whatever the bundles are
  pub proportional-maximin_fair : proportional n rows bundles ≡ true → maximin_fair n rows (shares_of (sheet_of n m table)) bundles ≡ true
  unfolding proportional maximin_fair
  proportional-maximin_fair even = mem-all _ (range 1 n) (λ i mi. le-leb _ _ (whole i mi))
    where
      whole : (i : ℕ) → Mem i (range 1 n) → nth 0 (shares_of (sheet_of n m table)) i ≤ seen i i
      whole i mi =
          let some : 1 ≤ n = omega (arith, range-bounds 1 n mi) in
          let multiples : n * nth 0 (shares_of (sheet_of n m table)) i ≤ n * seen i i = omega (
            arith,
            ap (λ x. n * x) (nth-shares n m table mi),
            shares-le-total n (all_values m (valuation_of table i)) some,
            ap total (valuation_of-profile n m table mi),
            leb-true (total (valuation_of rows i)) (n * seen i i) (all-mem _ even mi),
          ) in
          le_of_mul-le-mul_left multiples some

  -- by terms that promise no more than the whole share
  pub maximin_fair-none_negative : (terms : Terms) (shares : List ℕ) → terms.top ≤ terms.bottom → maximin_fair n rows shares bundles ≡ true
      → none_negative n (margins_of n terms (own_values n rows bundles) shares) ≡ true
  unfolding maximin_fair
  maximin_fair-none_negative terms shares whole fair =
      none_negative-own n terms rows bundles shares
      ∙ mem-all _ (range 1 n) (λ i mi. le-leb _ _ (mul-le-mul whole (leb-true (nth 0 shares i) (seen i i) (all-mem _ fair mi))))
