use mathlib.Core.Path.{◌≡◌, refl, sym, ap, subst, ◌∙◌}
use Prim.Native.Nat.{ℕ, ◌+◌, ◌^◌, ◌≤◌, min}
use native.Mathlib.Numerals.{add-one}
use native.Mathlib.Omega.{arith}
use lib.ListN.{length-replicate}
use Rattle.lists.proofs.places.Zeros.{get_d-zeros}
use Rattle.sheet.specs.Limits.{most_agents, most_items}
use Rattle.sheet.proofs.sets.Ranges.{set_of-up_to}
use Rattle.exact_levels.specs.ServedSets.{RankedAt, Ranked}
use Rattle.exact_levels.specs.Levels.{levels_of}
use Rattle.exact_levels.proofs.kept.Served.{ranked-none, ranked-next}
use Rattle.exact_levels.proofs.Levels.{levels-are}
use Rattle.exact_levels.proofs.rank.Goals.{After-all_items-all}
use Rattle.exact_levels.proofs.rank.Goals as goal

-- the sets of the items counted
sets-counted : (c : After-all_items-all) → c.all_items-all.result + 1 ≡ 2 ^ c.min-counted.result
sets-counted c = ap (λ s. s + 1) c.all_items-all.ensures ∙ set_of-up_to (min c.args.contents.items most_items) ∙ ap (λ k. 2 ^ k) (sym c.min-counted.ensures)

few-counted : (c : After-all_items-all) → c.min-counted.result ≤ most_items
few-counted c = omega (arith, c.min-counted.ensures)

pub loop-i-init : goal.loop-i-init
loop-i-init c =
    let a = c.args in
    let at = (goal.at.loop-i-init c).After-all_items-all in
    record {
      few = omega (arith, c.min-last.ensures);
      all_sets = record { few = few-counted at; all = sets-counted at };
      up_to = refl;
      places = length-replicate {A = ℕ} 4096 0;
      ranked = λ set upto. subst (RankedAt a.contents.table a.shares 0 set) (sym (get_d-zeros 4096 set)) (ranked-none a.contents.table a.shares set);
      behind = λ set le. get_d-zeros 4096 set;
    }

pub loop-i-preserved : goal.loop-i-preserved
loop-i-preserved c =
    let l = c.loop-i in
    let a = c.args in
    let all = c.all_items-all.result in
    let sets = l.invariant.all_sets in
    let r = c.raise.ensures in
    record {
      few = l.invariant.few;
      all_sets = sets;
      up_to = refl;
      places = r.places ∙ l.invariant.places;
      ranked = subst (λ k. Ranked a.contents.table a.shares k all c.raise.new.levels) (sym (add-one l.i))
          (λ set upto. ranked-next a.contents.table a.shares l.i c.min-counted.result all l.levels l.invariant.ranked sets.few sets.all r.light set _ upto (r.each set (omega arith)));
      behind = λ set le. r.behind set le ∙ l.invariant.behind set le;
    }

pub returns : goal.returns
returns c =
    let l = c.loop-i in
    let a = c.args in
    let all = c.all_items-all.result in
    let end : l.i ≡ min a.contents.agents most_agents = omega (arith, l.auto.i-end, c.min-last.ensures) in
    let m = c.min-counted.result in
    levels-are a.contents.table a.shares (min a.contents.agents most_agents) m l.invariant.all_sets.few all l.levels l.invariant.all_sets.all l.invariant.places
    (subst (λ k. Ranked a.contents.table a.shares k all l.levels) end l.invariant.ranked) l.invariant.behind
    ∙ ap (levels_of a.contents.table a.shares (min a.contents.agents most_agents)) c.min-counted.ensures
