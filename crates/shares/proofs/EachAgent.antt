-- The shares and the cuts of a table, one agent after the other. Assumes nothing.
use mathlib.Core.Path.{◌≡◌, sym, ap, ap₂, subst⁻¹, ◌∙◌}
use mathlib.Core.Bool.{Bool}
use mathlib.Core.List.{List, map, map-map}
use Prim.Native.Nat.{ℕ, ◌*◌, ◌^◌, ◌≤◌, ◌<◌, min}
use native.Mathlib.Nat.{pow-le-pow_right}
use native.Mathlib.Omega.{arith}
use lib.Dec.{leb}
use lib.ListN.{length, length-map}
use Rattle.lists.specs.Lists.{range, padded, all}
use Rattle.lists.specs.Sums.{total}
use Rattle.lists.proofs.members.Tests.{all_map}
use Rattle.lists.proofs.ranges.Ranges.{length-range}
use Rattle.sheet.specs.Limits.{most_agents, most_items, InUse}
use Rattle.sheet.specs.Answers.{accepted}
use Rattle.sheet.specs.Sets.{set_of}
use Rattle.sheet.specs.Valuations.{item_value, values_of}
use Rattle.sheet.specs.Tables.{valuation_of, all_values, profile}
use Rattle.sheet.proofs.sets.Ranges.{set_of-up_to}
use Rattle.sheet.proofs.sets.Remainders.{values-all}
use Rattle.sheet.specs.Contents.{sheet_of}
use Rattle.growth.specs.Growth.{growths}
use Rattle.maximin.specs.Share.{maximin_share, maximin_partition}
use Rattle.cut.specs.Outcome.{cutting, cutting_of, whole_cut, placed}
use Rattle.cut.proofs.Allowance.{cutting-shared}
use Rattle.shares.specs.Shares.{share_of, shares_covered}
use Rattle.shares.specs.Stored.{blank_cut, stored}
use Rattle.shares.specs.declared.Shares.{Shares}

-- within the limits, and with an allowance that is enough, the cut of all items is neither refused nor stopped
pub cutting-all : (row : List ℕ) (n m allowance : ℕ) → InUse n m → growths n m ≤ allowance
    → cutting row (set_of (range 1 (min m most_items))) n allowance ≡ accepted (whole_cut n (all_values m row))
cutting-all row n m allowance in_use enough =
    let few : m ≤ most_items = in_use.few_items in
    let e : min m most_items ≡ m = omega arith in
    let power : 2 ^ m ≤ 2 ^ most_items = pow-le-pow_right {n = 2} (omega arith) few in
    let small : set_of (range 1 m) < 2 ^ most_items = omega (arith, set_of-up_to m) in
    let values : values_of row (set_of (range 1 m)) ≡ all_values m row = values-all m (omega arith) row in
    let count : length (values_of row (set_of (range 1 m))) ≡ m = ap length values ∙ length-map (range 1 m) (item_value row) ∙ length-range 1 m in
    ap (λ k. cutting row (set_of (range 1 k)) n allowance) e
    ∙ cutting-shared row (set_of (range 1 m)) n allowance in_use.some in_use.few small (subst⁻¹ (λ k. growths n k ≤ allowance) count enough)
    ∙ ap (λ values. accepted (whole_cut n values)) values

-- shares and cuts, a place for each agent
abbrev pub shared_as : List ℕ → List (List ℕ) → Shares
shared_as shares cuts = record { shares = padded most_agents 0 shares; cuts = padded most_agents blank_cut cuts }

module _ (n m : ℕ) (table : List (List ℕ)) where
  -- the cut of agent i
  abbrev pub cut_at : ℕ → List ℕ
  cut_at i = placed (maximin_partition n (all_values m (valuation_of table i)))

  -- the value of all items to agent i
  abbrev pub total_of : ℕ → ℕ
  total_of i = total (all_values m (valuation_of table i))

  -- whether the share of agent i times the number of agents does not exceed that
  abbrev pub is_covered : ℕ → Bool
  is_covered i = leb (n * share_of (sheet_of n m table) i) (total_of i)

  -- the shares, the cuts and the test of refusal 9 by the agents' numbers
  pub shares-range : map (maximin_share n) (profile n m table) ≡ map (share_of (sheet_of n m table)) (range 1 n)
  unfolding profile
  shares-range = map-map (maximin_share n) (λ i. all_values m (valuation_of table i)) (range 1 n)

  pub cuts-range : map placed (map (maximin_partition n) (profile n m table)) ≡ map cut_at (range 1 n)
  unfolding profile
  cuts-range =
      let row : ℕ → List ℕ = λ i. all_values m (valuation_of table i) in
      ap (map placed) (map-map (maximin_partition n) row (range 1 n)) ∙ map-map placed (λ i. maximin_partition n (row i)) (range 1 n)

  pub shares_covered-range : shares_covered n (profile n m table) ≡ all is_covered (range 1 n)
  unfolding shares_covered profile
  shares_covered-range = all_map (λ values. leb (n * maximin_share n values) (total values)) (λ i. all_values m (valuation_of table i)) (range 1 n)

  pub stored-each : stored (map (cutting_of n) (profile n m table)) ≡ shared_as (map (maximin_share n) (profile n m table)) (map placed (map (maximin_partition n) (profile n m table)))
  stored-each =
      let rows = profile n m table in
      ap₂ shared_as
      (map-map (λ c. c.share) (cutting_of n) rows)
      (map-map (λ c. placed c.partition) (cutting_of n) rows ∙ sym (map-map placed (maximin_partition n) rows))

  pub stored-range : stored (map (cutting_of n) (profile n m table)) ≡ shared_as (map (share_of (sheet_of n m table)) (range 1 n)) (map cut_at (range 1 n))
  stored-range = stored-each ∙ ap₂ shared_as shares-range cuts-range
