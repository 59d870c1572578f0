use mathlib.Core.Path.{◌≡◌, sym, ap, ap₂, ◌∙◌}
use Prim.Native.Nat.{◌/◌}
use native.Mathlib.Nat.{div-one}
use lib.ListN.{length}
use Rattle.lists.specs.Sums.{total}
use Rattle.maximin.specs.Share.{maximin_share, maximin_partition}
use Rattle.cut.specs.Outcome.{placed}
use Rattle.cut.specs.declared.Figure.TheVariants.{Share}
use Rattle.cut.specs.declared.Cutting.{Cutting}
use Rattle.cut.proofs.One.{growths-one, maximin_share-one, maximin_partition-one}
use Rattle.cut.proofs.Request.cut_in_one.Goals as goal

pub returns : goal.returns
returns c =
    let values = c.args.self.now.values.now in
    let share : c.mean.result ≡ maximin_share 1 values = c.mean.ensures ∙ ap (λ n. total values / n) c.requires ∙ div-one (total values) ∙ sym (maximin_share-one values) in
    let partition : c.all_in_first.result ≡ placed (maximin_partition 1 values) = c.all_in_first.ensures ∙ ap placed (sym (maximin_partition-one values)) in
    ap₂ {C = Cutting} (λ least places. record { figure = Share least; partition = places; count = 1 }) share partition
    ∙ ap {B = Cutting} (λ count. record { figure = Share (maximin_share 1 values); partition = placed (maximin_partition 1 values); count = count }) (sym (growths-one (length values)))
