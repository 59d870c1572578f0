use mathlib.Core.Path.{refl, sym, ap, ◌∙◌}
use native.Mathlib.Nat.{sub-zero}
use lib.IntN.{pos}
use lib.ListN.{get_or}
use lib.Signed.{non_neg}
use Rattle.std.proofs.Common.{rules, tests}
use Rattle.std.proofs.lemmas.Iterator.{YieldsList-from_range}
use Rattle.std.proofs.lemmas.Iterator.Search.{all_from_yields_List}
use Rattle.lists.specs.Lists.{nth}
use Rattle.lists.proofs.places.Places.{nth-next}
use Rattle.margins.specs.Margins.{none_negative}
use Rattle.sheet.proofs.listing.Entries.{all-places}
use Rattle.margins.proofs.none_negative.Goals as goal

pub returns : goal.returns
returns c =
    let margins = c.args.margins in
    all_from_yields_List (λ i. non_neg (get_or margins i (pos 0))) _ _ c.all.result c.all.ensures.ran (YieldsList-from_range 0 c.min.result c.min.result refl (sub-zero c.min.result)) (λ x b q k. search (rules, tests))
    ∙ sym (all-places (λ i. non_neg (nth (pos 0) margins i)) (λ i. non_neg (get_or margins i (pos 0))) (λ i. rw (nth-next (pos 0) margins i) refl) 1 0 c.min.result refl)
    ∙ ap (λ n. none_negative n margins) c.min.ensures
