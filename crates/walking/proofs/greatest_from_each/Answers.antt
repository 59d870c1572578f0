use mathlib.Core.Path.{◌≡◌, sym, ap, subst, ◌∙◌}
use mathlib.Core.List.{◌∷◌}
use Prim.Native.Nat.{◌+◌, ◌-◌}
use native.Mathlib.Omega.{arith}
use lib.ListN.{get_or, drop, set, length-set}
use Rattle.lists.proofs.places.Passing.{drop-next}
use Rattle.reach.specs.Pruning.{greatest_value, GreatestFrom}
use Rattle.reach.proofs.pruning.Greatest.{greatest_from-before}
use Rattle.walking.proofs.greatest_from_each.Goals as goal

pub loop-i-preserved : goal.loop-i-preserved
loop-i-preserved c =
    let l = c.loop-i in
    let values = c.args.values.now in
    let k = l.i - 1 in
    let most = c.max-most.result in
    let after : k + 1 ≡ l.i = omega arith in
    let now-first = drop-next values k (omega arith) in
    let later = ap (λ j. greatest_value (drop j values)) after in
    let is : most ≡ greatest_value (get_or values k 0 ∷ drop (k + 1) values) = omega (arith, c.max-most.ensures, l.invariant.most_is, later) in
    let from = subst (λ j. GreatestFrom j (drop j values) l.greatest) (sym after) l.invariant.filled in
    record {
      places = length-set l.greatest k most ∙ l.invariant.places;
      most_is = is ∙ ap greatest_value (sym now-first);
      filled = subst (λ rest. GreatestFrom k rest (set l.greatest k most)) (sym now-first)
          (greatest_from-before k (get_or values k 0) (drop (k + 1) values) l.greatest most (omega (arith, l.invariant.places)) from is);
    }
