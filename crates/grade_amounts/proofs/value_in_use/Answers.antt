use mathlib.Core.Path.{◌≡◌, ap, ◌∙◌}
use Prim.Native.Nat.{◌+◌, ◌%◌, ◌^◌, ◌≤◌, min}
use native.Mathlib.Nat.{pow-le-pow_right}
use native.Mathlib.Omega.{arith}
use Rattle.sheet.specs.Limits.{most_items}
use Rattle.sheet.specs.Sets.{items_of}
use Rattle.sheet.specs.Valuations.{value}
use Rattle.sheet.proofs.sets.Ranges.{set_of-up_to}
use Rattle.sheet.proofs.sets.Remainders.{value-remainder}
use Rattle.grade_amounts.proofs.value_in_use.Goals as goal
use Rattle.grade_amounts.proofs.value_in_use.Goals.{After-all_items}

-- the number of the sets of items in use
sets-told : (c : After-all_items) → let m = min c.args.items most_items in (c.all_items.result + 1 ≡ 2 ^ m) × (2 ^ m ≤ 2 ^ most_items)
sets-told c =
    let m = min c.args.items most_items in
    let few : m ≤ most_items = omega arith in
    (ap (λ set. set + 1) c.all_items.ensures ∙ set_of-up_to m, pow-le-pow_right {n = 2} (omega arith) few)

pub overflow_add-all_items : goal.overflow_add-all_items
overflow_add-all_items c = omega (arith, sets-told c)

pub returns : goal.returns
returns c =
    let a = c.args in
    let worth =
    c.value_of.ensures.0
    ∙ ap (λ sets. value a.valuation (items_of (a.bundle % sets))) (sets-told (goal.at.returns c).After-all_items).0
    ∙ value-remainder (min a.items most_items) (omega arith) a.valuation a.bundle in
    (worth, c.value_of.ensures.1)
