use mathlib.Core.Path.{◌≡◌, sym, ap, ◌∙◌}
use mathlib.Core.List.{[], ◌∷◌, ◌++◌, map, map-append}
use Prim.Native.Nat.{◌+◌, ◌<◌}
use native.Mathlib.Omega.{arith}
use lib.ListN.{length, get_or, take, length-map, length-take}
use lib.Seq.{take_all}
use Rattle.lists.specs.Sums.{total}
use Rattle.lists.proofs.places.Passing.{within-at, take_next}
use Rattle.lists.proofs.sums.Sums.{total-snoc}
use Rattle.sheet.specs.Limits.{set_bits}
use Rattle.sheet.specs.Sets.{items_of}
use Rattle.sheet.specs.Valuations.{item_value, values_of}
use Rattle.sheet.proofs.listing.Entries.{pushed}
use Rattle.sheet.proofs.valuing.Valuations.{items_within}
use Rattle.sheet.proofs.valuing.values_of.Goals as goal

pub item_value-requires : goal.item_value-requires
item_value-requires c =
    let items = c.as_slice-item-items.ensures.same ∙ c.items_of-items.ensures in
    let more : c.loop-item.item-index < length (items_of c.args.set) = omega (arith, ap length items) in
    rw items (within-at set_bits (items_of c.args.set) (items_within c.args.set) c.loop-item.item-index more).0

pub loop-item-preserved : goal.loop-item-preserved
loop-item-preserved c =
    let l = c.loop-item in
    let ks = c.as_slice-item-items.result.now in
    let f = item_value c.args.valuation in
    let v = c.item_value.result in
    let count : length l.values ≡ l.item-index = ap length l.invariant.values ∙ length-map (take l.item-index ks) f ∙ simp length-take (omega arith) in
    let told : c.push.new.self ≡ l.values ++ (v ∷ []) = c.push.ensures ∙ pushed l.values v (omega (arith, c.as_slice-item-items.ensures)) in
    let next : map f (take (l.item-index + 1) ks) ≡ map f (take l.item-index ks) ++ (v ∷ []) =
    ap (map f) (take_next ks l.item-index (omega arith)) ∙ map-append f (take l.item-index ks) (get_or ks l.item-index 0 ∷ []) ∙ ap (λ x. map f (take l.item-index ks) ++ (x ∷ [])) (sym c.item_value.ensures.value) in
    record {
      values = told ∙ ap (λ vs. vs ++ (v ∷ [])) l.invariant.values ∙ sym next;
      bound = omega (arith, ap total told, total-snoc l.values v, c.item_value.ensures.bound, l.invariant.bound);
    }

pub returns-clause-values : goal.returns-clause-values
unfolding values_of
returns-clause-values c =
    let l = c.loop-item in
    let items = c.as_slice-item-items.ensures.same ∙ c.items_of-items.ensures in
    l.invariant.values ∙ ap (map (item_value c.args.valuation)) (take_all l.item-index c.as_slice-item-items.result.now (omega arith) ∙ items)

pub returns-clause-bound : goal.returns-clause-bound
returns-clause-bound c = omega (arith, ap total (sym (returns-clause-values c)), c.loop-item.invariant.bound, c.as_slice-item-items.ensures)
