use mathlib.Core.Path.{◌≡◌, sym, ap, ◌∙◌}
use mathlib.Core.Logic.{inl, inr, ⊎_elim}
use mathlib.Core.List.{[], ◌∷◌, ◌++◌, append-nil, append_assoc}
use native.Mathlib.Omega.{arith}
use lib.ListN.{length, length-append}
use borrow.Author.Tests.{eq-eqb}
use Rattle.lists.specs.Lists.{cons_if}
use Rattle.sheet.proofs.listing.Entries.{pushed}
use Rattle.bundling.specs.Bundles.{bundle}
use Rattle.bundling.proofs.Bundles.{bundle-empty}
use Rattle.bundling.proofs.bundle_of.Goals as goal

pub loop-item-preserved-then-place-number : goal.loop-item-preserved-then-place-number
loop-item-preserved-then-place-number c =
    let l = c.loop-item in
    let n = c.args.number in
    let k = c.in-Some.item.now in
    let d = c.in-Some.place.now in
    let ks = c.next.new.self.a.rest.now in
    let ds = c.next.new.self.b.rest.now in
    let h = c.in-Some.ensures.steps in
    let told : c.push.new.self ≡ l.bundle ++ (k ∷ []) = c.push.ensures ∙ pushed l.bundle k (omega (arith, l.invariant.room, ap length h.0)) in
    let same : bundle l.item-iterator.a.rest.now l.item-iterator.b.rest.now n ≡ k ∷ bundle ks ds n =
    rw (h.0, h.1) (ap (λ b. cons_if b k (bundle ks ds n)) (eq-eqb n d (sym c.if-place-number.true))) in
    record {
      found = ap (λ b. b ++ bundle ks ds n) told ∙ append_assoc l.bundle (k ∷ []) (bundle ks ds n) ∙ ap (λ r. l.bundle ++ r) (sym same) ∙ l.invariant.found;
      room = omega (arith, ap length told, length-append l.bundle (k ∷ []), l.invariant.room, ap length h.0);
    }

pub returns : goal.returns
returns c =
    let l = c.loop-item in
    let ks = l.item-iterator.a.rest.now in
    let ds = l.item-iterator.b.rest.now in
    let none = bundle-empty ks ds c.args.number (⊎_elim (λ e. inl e.1.0) (λ e. inr e.1.0) c.in-None.ensures.steps) in
    sym (append-nil l.bundle) ∙ ap (λ r. l.bundle ++ r) (sym none) ∙ l.invariant.found
