use mathlib.Core.Path.{refl, sym, ap, ◌∙◌}
use native.Mathlib.Nat.{sub-zero}
use lib.Dec.{leb}
use lib.ListN.{get_or}
use Rattle.std.proofs.Common.{rules, tests}
use Rattle.std.proofs.lemmas.Iterator.{YieldsList-from_range}
use Rattle.std.proofs.lemmas.Iterator.Search.{all_from_yields_List}
use Rattle.lists.specs.Lists.{nth}
use Rattle.lists.proofs.places.Places.{nth-next}
use Rattle.sheet.specs.Amounts.{each_at_most}
use Rattle.sheet.proofs.listing.Entries.{all-places}
use Rattle.sheet.proofs.amounts.each_at_most.Goals as goal

pub returns : goal.returns
returns c =
    let low = c.args.low in
    let high = c.args.high in
    all_from_yields_List (λ i. leb (get_or low i 0) (get_or high i 0)) _ _ c.all.result c.all.ensures.ran (YieldsList-from_range 0 c.min.result c.min.result refl (sub-zero c.min.result)) (λ x b q k. search (rules, tests))
    ∙ sym (all-places (λ i. leb (nth 0 low i) (nth 0 high i)) (λ i. leb (get_or low i 0) (get_or high i 0)) (λ i. rw (nth-next 0 low i, nth-next 0 high i) refl) 1 0 c.min.result refl)
    ∙ ap (each_at_most low high) c.min.ensures
