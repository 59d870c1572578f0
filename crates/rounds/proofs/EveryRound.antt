-- Every round of every division is as document 01, "Rounds", says, and begins with what the one before it left. Assumes nothing.
use mathlib.Core.Path.{refl}
use mathlib.Core.Bool.{Bool}
use mathlib.Core.List.{List, [], ◌∷◌, map, Memᴰ as Mem}
use Prim.Native.Nat.{ℕ, zero, suc, ◌≤◌, ◌<◌}
use native.Mathlib.Nat.{le_of_eq}
use native.Mathlib.Omega.{arith}
use lib.ListN.{length}
use Rattle.lists.specs.Lists.{range, Rising}
use Rattle.lists.proofs.ranges.Ranges.{length-range}
use Rattle.lists.proofs.places.Passing.{empty}
use Rattle.lists.proofs.dictionary.Dictionary.{range-rising, pairwise-sublist}
use Rattle.sheet.specs.Valuations.{item_value}
use Rattle.sheet.specs.Tables.{valuation_of, profile}
use Rattle.maximin.specs.Share.{maximin_share, maximin_partition}
use Rattle.maximin.proofs.Laws.{least_bundle-le-maximin_share, maximin_partition-within, least_bundle-maximin_partition, maximin_partition-precedes}
use Rattle.matching.specs.Matching.{cutter_of, chosen_of}
use Rattle.matching.proofs.Cutter.{cutter_of-mem, cutter_of-lowest}
use Rattle.matching.proofs.AllServed.{waiting_of-largest, cutter_served}
use Rattle.matching.proofs.Ties.{waiting_of-first, chosen_of-first}
use Rattle.terms.specs.declared.Terms.{Terms}
use Rattle.rounds.specs.Round.{Instance, Round, round, rounds}
use Rattle.rounds.specs.Documented.{ShareAndCut, RoundAsDocumented, FollowOn}
use Rattle.rounds.specs.Division.{instance_of, all_rounds}
use Rattle.terms.specs.Allowed.{AtMostStandard}
use Rattle.rounds.proofs.round.Parts.{cutter_cut, cut_suits, round-begins, waiting-falls}
use Rattle.rounds.proofs.round.Invariant.{Sound, Left, left-all, matched}
use Rattle.rounds.proofs.round.Rounds.{rounds-each}
use Rattle.rounds.proofs.Allocation.{sound}

-- the sentences of "Share and cut" hold of the maximin share and the cut that shows it
pub share-and-cut-as-documented : (n : ℕ) (values : List ℕ) → 1 ≤ n → ShareAndCut n values (maximin_share n values) (maximin_partition n values)
share-and-cut-as-documented n values some =
    record {
      share_greatest = λ l p. least_bundle-le-maximin_share n values l p.0 p.1;
      cut_partition = maximin_partition-within n values some;
      cut_reaches = least_bundle-maximin_partition n values some;
      cut_first = λ l p. maximin_partition-precedes n values some l p.0 p.1;
    }

module _ {N M : ℕ} {G : Instance} {agents items : List ℕ} (sound : Sound N M G) (some : 1 ≤ length agents) (state : Left N M G agents items) where
  abbrev n : ℕ
  n = length agents

  abbrev cutter : ℕ
  cutter = cutter_of agents

  -- the cutter's values of the items left
  abbrev values : List ℕ
  values = map (item_value (valuation_of G.valuations cutter)) items

  rising : Rising agents
  rising = pairwise-sublist (λ x y. x < y) state.of_agents (range-rising 1 N)

  pub round-as-documented : RoundAsDocumented G (round G agents items)
  unfolding round
  round-as-documented =
      record {
        agents_rise = rising;
        items_rise = pairwise-sublist (λ x y. x < y) state.of_items (range-rising 1 M);
        cutter_left = cutter_of-mem agents some;
        cutter_lowest = cutter_of-lowest agents rising;
        share_of_left = maximin_share n values;
        cut = cutter_cut G agents items;
        cut_of_left = share-and-cut-as-documented n values some;
        waiting_tight = ((waiting_of-largest suits cutter agents).sublist, (waiting_of-largest suits cutter agents).bound);
        waiting_largest = λ set t. (waiting_of-largest suits cutter agents).largest set t.0 t.1;
        waiting_first = λ set t. waiting_of-first suits cutter agents rising set t.0 t.1;
        served_others = refl;
        cutter_served = cutter_served suits cutter agents (cutter_of-mem agents some);
        chosen = chosen_of suits cutter agents;
        chosen_serves = matched sound some state;
        chosen_first = chosen_of-first suits cutter agents;
        bundles_chosen = refl;
        left_together = refl;
      }
    where
      suits : ℕ → ℕ → Bool
      suits = cut_suits G agents items

rounds_follow_on : (G : Instance) (most : ℕ) (agents items : List ℕ) → length agents ≤ most → FollowOn agents items (rounds G most agents items)
unfolding rounds
rounds_follow_on G zero agents items few = empty agents few
rounds_follow_on G (suc most) [] items few = refl
rounds_follow_on G (suc most) (a ∷ agents) items few =
    let r = round G (a ∷ agents) items in
    let (of_agents, of_items) = round-begins G (a ∷ agents) items in
    (of_agents, of_items, rounds_follow_on G most r.waiting r.left (omega (arith, waiting-falls G (a ∷ agents) items (omega arith))))

-- all rounds of every division: n agents, m items, any table and any terms that promise no more than document 01
module _ (n m : ℕ) (terms : Terms) (table : List (List ℕ)) where
  abbrev G : Instance
  G = instance_of n terms (profile n m table)

  -- they begin with all agents and all items
  pub all-rounds-follow-on : FollowOn (range 1 n) (range 1 m) (all_rounds n m G)
  all-rounds-follow-on = rounds_follow_on G n (range 1 n) (range 1 m) (le_of_eq (length-range 1 n))

  pub every-round-as-documented : AtMostStandard n terms → (r : Round) → Mem r (all_rounds n m G) → RoundAsDocumented G r
  every-round-as-documented allowed =
      let is-sound = sound n m terms table allowed in
      rounds-each is-sound (RoundAsDocumented G) (λ agents items. round-as-documented is-sound) n (range 1 n) (range 1 m) (left-all n m G)
