use mathlib.Core.Path.{◌≡◌, ap, ◌∙◌}
use mathlib.Core.Bool.{Bool}
use mathlib.Core.List.{List, map}
use Prim.Native.Nat.{ℕ, ◌-◌}
use Rattle.lists.specs.Lists.{nth, padded}
use Rattle.lists.specs.Sums.{total}
use Rattle.sheet.specs.Limits.{most_agents}
use Rattle.matching.specs.Matching.{chosen_of}
use Rattle.serving.specs.Serving.{suits_of, agents_in, serving_of}
use Rattle.serving.proofs.round.AgentsLeft.{agents_in-sublist}
use Rattle.serving.proofs.round.Parts.{chosen_within, chosen-few}
use Rattle.settling.specs.Suiting.{suits_table}
use Rattle.settling.specs.Settling.{bundle_suits, handed_sets, settled_by}
use Rattle.settling.proofs.settle_round.Goals as goal
use Rattle.settling.proofs.settle_round.Goals.{After-serve-round}

-- what suits whom, and the bundles chosen, once the round is served
module _ (c : After-serve-round) where
  abbrev suits : ℕ → ℕ → Bool
  suits = bundle_suits c.args.terms c.args.table c.args.shares c.args.cutter c.args.left c.args.set c.args.partition

  abbrev chosen-of : List ℕ
  chosen-of = chosen_of suits c.args.cutter (agents_in c.args.left)

  serving-is : c.serve-round.result ≡ serving_of suits c.args.cutter (agents_in c.args.left)
  serving-is =
      let a = c.args in
      c.serve-round.ensures
      ∙ ap (λ t. serving_of (suits_of t) a.cutter (agents_in a.left))
      (c.suits_table-suiting.ensures ∙ ap (suits_table a.terms a.table a.shares) c.bundle_sets-sets.ensures)

  chosen_is : c.serve-round.result.chosen ≡ chosen-of
  unfolding serving_of
  chosen_is = ap (λ r. r.chosen) serving-is

pub chosen_sets-handed-requires : goal.chosen_sets-handed-requires
chosen_sets-handed-requires c =
    let round = (goal.at.chosen_sets-handed-requires c).After-serve-round in
    rw (c.as_slice.ensures.same ∙ chosen_is round) (chosen_within (suits round) c.args.cutter (agents_in-sublist c.args.left), chosen-few (suits round) c.args.cutter (agents_in-sublist c.args.left))

pub returns : goal.returns
unfolding serving_of settled_by
returns c =
    let a = c.args in
    let round = (goal.at.returns c).After-serve-round in
    let handed : c.chosen_sets-handed.result ≡ handed_sets a.terms a.table a.shares a.cutter a.left a.set a.partition =
    c.chosen_sets-handed.ensures
    ∙ ap (λ l. padded most_agents 0 (map (nth 0 c.bundle_sets-sets.result) l)) (c.as_slice.ensures.same ∙ chosen_is round)
    ∙ ap (λ sets. padded most_agents 0 (map (nth 0 sets) (chosen-of round))) c.bundle_sets-sets.ensures in
    let left_is : c.left_of.result ≡ a.set - total (handed_sets a.terms a.table a.shares a.cutter a.left a.set a.partition) = c.left_of.ensures ∙ ap (λ l. a.set - total l) handed in
    rw (serving-is round, handed, left_is)
