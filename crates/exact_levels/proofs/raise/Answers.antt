use mathlib.Core.Path.{◌≡◌, ap, ◌∙◌}
use Prim.Native.Nat.{◌^◌, ◌≤◌}
use native.Mathlib.Omega.{arith}
use lib.ListN.{get_or, length-set}
use lib.Seq.{get_or-set_other}
use Rattle.lists.proofs.places.Stores.{stored-each}
use Rattle.sheet.specs.Limits.{most_items}
use Rattle.shares.proofs.Marks.{marks-small}
use Rattle.exact_levels.specs.internal.Keeping.{level_with}
use Rattle.sheet.proofs.valuing.SetValues.{value-set-small}
use Rattle.exact_levels.proofs.kept.Staged.{few-sets}
use Rattle.exact_levels.proofs.raise.Goals.{Start}
use Rattle.exact_levels.proofs.raise.Goals as goal

-- the sets are at most as many as a sheet has
few : (c : Start) → c.args.sets ≤ 2 ^ most_items
few c = few-sets c.args.valuation c.args.levels.now c.args.before c.args.items c.args.sets c.requires.all_sets

pub bounds-levels-set : goal.bounds-levels-set
bounds-levels-set c = omega (arith, few (goal.at.bounds-levels-set c).Start, c.requires.places)

pub bounds-kept-set : goal.bounds-kept-set
bounds-kept-set c = omega (arith, few (goal.at.bounds-kept-set c).Start)

pub bounds-levels-set-in-loop-set : goal.bounds-levels-set-in-loop-set
bounds-levels-set-in-loop-set c = omega (arith, few (goal.at.bounds-levels-set-in-loop-set c).Start, c.requires.places)

pub loop-set-preserved : goal.loop-set-preserved
loop-set-preserved c =
    let a = c.args in
    let l = c.loop-set in
    let v = c.level_with in
    record {
      places = simp length-set l.invariant.places;
      done = stored-each (λ k x. x ≡ level_with (get_or a.levels.now k 0) a.before a.share (get_or c.keep_most-kept.result k 0)) 0 l.levels l.set v.result
          (omega (arith, l.invariant.places, c.requires.places, few (goal.at.loop-set-preserved c).Start)) l.invariant.done
          (v.ensures ∙ ap (λ x. level_with x a.before a.share (get_or c.keep_most-kept.result l.set 0)) (l.invariant.same l.set (omega arith)));
      same = λ k le. get_or-set_other l.levels l.set k v.result 0 (λ e. omega arith) ∙ l.invariant.same k (omega arith);
    }

pub returns : goal.returns
returns c =
    let l = c.loop-set in
    let m = c.keep_most-kept in
    record {
      places = l.invariant.places;
      light = value-set-small c.args.valuation (marks-small most_items c.args.valuation _ c.well_formed.0);
      each = λ set lt. record { most = get_or m.result set 0; is_most = m.ensures set lt; raised = l.invariant.done set (omega arith) };
      behind = λ set le. l.invariant.same set (omega (arith, l.auto.set-end));
    }
