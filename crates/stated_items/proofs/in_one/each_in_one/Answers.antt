use mathlib.Core.Path.{◌≡◌, refl, sym, ap, ◌∙◌}
use mathlib.Core.List.{map}
use Prim.Native.Nat.{ℕ, ◌*◌, ◌%◌, ◌^◌, ◌≤◌, ◌<◌}
use native.Mathlib.Nat.{pow-le-pow_right}
use native.Mathlib.Omega.{arith}
use lib.Dec.{eqb}
use Rattle.std.proofs.Common.{rules, tests}
use Rattle.std.specs.List.{list_all, range_with_len}
use Rattle.std.proofs.lemmas.Iterator.{YieldsList-from_range}
use Rattle.std.proofs.lemmas.Iterator.Search.{all_from_yields_List}
use Rattle.lists.specs.Lists.{count, elem}
use Rattle.lists.proofs.members.Chains.{list_all-range}
use Rattle.sheet.specs.Limits.{most_items}
use Rattle.sheet.specs.Sets.{items_of}
use Rattle.sheet.proofs.sets.Counted.{has_bit, count-naming}
use Rattle.stated_truth.specs.Truth.{each_in_one}
use Rattle.stated_items.proofs.in_one.each_in_one.Goals as goal

-- the bit of item i + 1 does not wrap
shifted : (i : ℕ) → i < most_items → 1 * 2 ^ i % 65536 ≡ 2 ^ i
shifted i low = let upto : i ≤ most_items = omega arith in omega (arith, pow-le-pow_right {n = 2} (omega arith) upto)

pub returns : goal.returns
unfolding each_in_one
returns c =
    let a = c.args in
    let sets = a.sets.now in
    let tested : c.all.result ≡ list_all (λ i. eqb (count (has_bit (1 * 2 ^ i % 65536)) sets) 1) (range_with_len 0 a.items) =
    all_from_yields_List (λ i. eqb (count (has_bit (1 * 2 ^ i % 65536)) sets) 1) _ _ c.all.result c.all.ensures.ran (YieldsList-from_range 0 a.items a.items refl (omega arith)) (λ x b q k. search (rules, tests)) in
    let bundles = map items_of sets in
    tested
    ∙ list_all-range
    (λ i. eqb (count (has_bit (1 * 2 ^ i % 65536)) sets) 1)
    (λ k. eqb (count (elem k) bundles) 1)
    0
    a.items
    (λ i low. ap (λ bit. eqb (count (has_bit bit) sets) 1) (shifted i (omega arith)) ∙ ap (λ found. eqb found 1) (sym (count-naming sets i (omega arith))))
