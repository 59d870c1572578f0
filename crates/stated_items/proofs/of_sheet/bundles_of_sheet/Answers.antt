use mathlib.Core.Path.{◌≡◌, ap, ◌∙◌}
use Prim.Native.Nat.{min}
use native.Mathlib.Omega.{arith}
use Rattle.std.proofs.Common.{rules, tests}
use Rattle.std.proofs.lemmas.Iterator.{YieldsList-from_slice}
use Rattle.std.proofs.lemmas.Iterator.Search.{all_from_yields_List}
use lib.Dec.{leb}
use Rattle.std.specs.List.{list_all}
use Rattle.lists.specs.Lists.{range, all}
use Rattle.lists.proofs.members.Chains.{list_all-all}
use Rattle.sheet.specs.Limits.{most_items}
use Rattle.sheet.specs.Sets.{set_of}
use Rattle.stated_items.proofs.OfSheet.{of-sheet-each}
use Rattle.stated_items.proofs.of_sheet.bundles_of_sheet.Goals as goal

pub returns : goal.returns
returns c =
    let a = c.args in
    let sets = a.sets.now in
    let tested : c.all.result ≡ list_all (λ set. leb set c.all_items-all.result) sets =
    all_from_yields_List (λ set. leb set c.all_items-all.result) _ _ c.all.result c.all.ensures.ran (YieldsList-from_slice sets cc) (λ x b q k. search (rules, tests)) in
    let kept : min a.items most_items ≡ a.items = omega arith in
    let limit = c.all_items-all.ensures ∙ ap (λ m. set_of (range 1 m)) kept in
    tested
    ∙ list_all-all (λ set. leb set c.all_items-all.result) sets
    ∙ ap (λ most. all (λ set. leb set most) sets) limit
    ∙ of-sheet-each a.items sets (omega arith) (λ i. omega (arith, c.type_inv.sets i))
