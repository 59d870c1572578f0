use mathlib.Core.Path.{◌≡◌, sym, ap, ap₂, ◌∙◌}
use mathlib.Core.List.{List, [], map}
use Prim.Native.Nat.{ℕ, ◌+◌, ◌*◌, min}
use native.Mathlib.Omega.{arith}
use lib.ListN.{get_or, set as store}
use Rattle.lists.specs.Lists.{nth}
use Rattle.lists.specs.Sums.{total, greatest_of}
use Rattle.lists.proofs.ranges.Ranges.{in-range}
use Rattle.lists.proofs.places.Padding.{padded-range}
use Rattle.lists.proofs.places.Places.{nth-next, store-small}
use Rattle.sheet.specs.Limits.{most_agents, most_items, greatest_sum}
use Rattle.sheet.specs.Sets.{items_of}
use Rattle.sheet.specs.Valuations.{value}
use Rattle.sheet.specs.Tables.{valuation_of, all_values, profile}
use Rattle.sheet.proofs.valuing.Tables.{valuation_of-profile}
use Rattle.sheet.proofs.sets.Bundles.{nth-items}
use Rattle.sheet.proofs.sets.Remainders.{value-all}
use Rattle.grade_amounts.specs.Compared.{own_value, greatest_bundle_value, multiple_of_own, total_value, compared}
use Rattle.grade_amounts.specs.declared.Compared.{Compared}
use Rattle.grade_amounts.proofs.compare.Goals as goal
use Rattle.grade_amounts.proofs.compare.Goals.{In-loop-i}

-- the values of the items in use to agent i + 1
row_read : (c : In-loop-i)
    → let a = c.args in
    let n = c.min-agents.result in
    let i = c.loop-i.i in
    all_values (min a.contents.items most_items) (get_or a.contents.table i []) ≡ valuation_of (profile n (min a.contents.items most_items) a.contents.table) (i + 1)
row_read c =
    let a = c.args in
    let n = c.min-agents.result in
    let i = c.loop-i.i in
    let m = min a.contents.items most_items in
    sym (valuation_of-profile n m a.contents.table (in-range 1 n (i + 1) (omega arith) (omega arith)) ∙ ap (all_values m) (nth-next [] a.contents.table i))

pub loop-i-preserved : goal.loop-i-preserved
loop-i-preserved c =
    let l = c.loop-i in
    let a = c.args in
    let n = c.min-agents.result in
    let m = min a.contents.items most_items in
    let rows = profile n m a.contents.table in
    let bundles = map items_of a.bundles in
    let row = row_read (goal.at.loop-i-preserved c).In-loop-i in
    let own = c.value_in_use-value.result in
    let worth : own ≡ own_value n rows bundles (l.i + 1) = c.value_in_use-value.ensures.0 ∙ ap₂ value row (sym (nth-items a.bundles l.i)) in
    let whole =
    c.value_of.ensures.0
    ∙ ap (λ set. value (get_or a.contents.table l.i []) (items_of set)) c.all_items-all.ensures
    ∙ value-all m (omega arith) (get_or a.contents.table l.i [])
    ∙ ap total row in (
      ap (λ s. store s l.i own) l.invariant.0
          ∙ padded-range most_agents 0 (own_value n rows bundles) l.i own (omega arith) worth,
      ap (λ s. store s l.i c.greatest_in_use.result) l.invariant.1
          ∙ padded-range most_agents 0 (greatest_bundle_value n rows bundles) l.i c.greatest_in_use.result (omega arith)
          (c.greatest_in_use.ensures ∙ ap (λ values. greatest_of (λ j. value values (nth [] bundles j)) n) row),
      ap (λ s. store s l.i (n * own)) l.invariant.2
          ∙ padded-range most_agents 0 (multiple_of_own n rows bundles) l.i (n * own) (omega arith) (ap (λ v. n * v) worth),
      ap (λ s. store s l.i c.value_of.result) l.invariant.3
          ∙ padded-range most_agents 0 (total_value n rows bundles) l.i c.value_of.result (omega arith) whole,
      store-small greatest_sum l.own l.i own c.value_in_use-value.ensures.1 l.invariant.4,
    )

pub returns-clause-amounts : goal.returns-clause-amounts
unfolding compared
returns-clause-amounts c =
    let a = c.args in
    let l = c.loop-i in
    let e : l.i ≡ c.min-agents.result = omega arith in
    made (rw e at l.invariant.0) (rw e at l.invariant.1) (rw e at l.invariant.2) (rw e at l.invariant.3)
    ∙ ap (λ n. compared n (profile n (min a.contents.items most_items) a.contents.table) (map items_of a.bundles)) c.min-agents.ensures
  where
    made : {own own' greatest greatest' multiples multiples' totals totals' : List ℕ} → own ≡ own' → greatest ≡ greatest' → multiples ≡ multiples' → totals ≡ totals'
        → ◌≡◌ {A = Compared}
        (record { own = own; greatest = greatest; multiples = multiples; totals = totals })
        (record { own = own'; greatest = greatest'; multiples = multiples'; totals = totals' })
    made p q r s = rw (p, q, r, s)
