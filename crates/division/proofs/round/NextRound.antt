-- What a round leaves for the next: the agents that wait and the items left, as sets. Assumes nothing.
use mathlib.Core.Path.{◌≡◌, refl, sym, ap, ◌∙◌}
use mathlib.Core.List.{List, [], ◌∷◌}
use mathlib.Core.List.Sublistᴰ.{trans as sublist-trans}
use mathlib.Core.List.{Sublistᴰ as Sublist}
use Prim.Native.Nat.{ℕ, ◌≤◌}
use native.Mathlib.Nat.{le_trans}
use native.Mathlib.Omega.{arith}
use lib.ListN.{length}
use Rattle.lists.specs.Lists.{range, Within}
use Rattle.lists.proofs.ranges.Ranges.{range-sublist}
use Rattle.lists.proofs.members.Counting.{length-sublist}
use Rattle.lists.proofs.ranges.RangeSublists.{range-sublist-within, range-sublist-few}
use Rattle.sheet.specs.Limits.{most_agents, most_items, set_bits}
use Rattle.sheet.specs.Sets.{items_of, set_of}
use Rattle.sheet.proofs.sets.Sets.{items-set_of}
use Rattle.sheet.proofs.sets.Items.{items-sublist}
use Rattle.sheet.proofs.sets.Ranges.{set_of-below}
use Rattle.growth.proofs.Growths.{fewer-growths}
use Rattle.matching.specs.Matching.{cutter_of}
use Rattle.serving.specs.Serving.{agents_in}
use Rattle.serving.proofs.round.AgentsLeft.{agents_in-sublist}
use Rattle.serving.proofs.round.Parts.{served-rising, waiting-below, agents_in-waiting}
use Rattle.rounds.specs.Round.{Instance, Round, round}
use Rattle.rounds.proofs.round.Parts.{cut_suits, waiting-sub, left-sub}
use Rattle.division.specs.internal.Left.{Cuttable, EnoughFor}

-- a set that is not 0 has a member
some-member : (l : List ℕ) → (set_of l ≡ 0 → ⊥) → 1 ≤ length l
some-member [] some = absurd (some refl)
some-member (k ∷ l) some = omega arith

module _ {left set : ℕ} (ok : Cuttable left set) (G : Instance) where
  abbrev r : Round
  r = round G (agents_in left) (items_of set)

  -- the agents served are agents of a sheet
  pub served-within : Within most_agents r.served
  unfolding round
  served-within = range-sublist-within most_agents (served-rising (cut_suits G (agents_in left) (items_of set)) (cutter_of (agents_in left)) (agents_in-sublist left))

  pub served-few : length r.served ≤ most_agents
  unfolding round
  served-few = range-sublist-few most_agents (served-rising (cut_suits G (agents_in left) (items_of set)) (cutter_of (agents_in left)) (agents_in-sublist left))

  -- the agents in the set of those who wait
  pub agents_in-next : agents_in (set_of r.waiting) ≡ r.waiting
  unfolding round
  agents_in-next = agents_in-waiting (cut_suits G (agents_in left) (items_of set)) (cutter_of (agents_in left)) (agents_in-sublist left)

  pub none-waiting : set_of r.waiting ≡ 0 → r.waiting ≡ []
  unfolding items_of
  none-waiting e = sym agents_in-next ∙ ap agents_in e

  items_left : Sublist r.left (range 1 most_items)
  items_left = sublist-trans (left-sub G (agents_in left) (items_of set)) (items-sublist set most_items ok.small_set (omega arith))

  -- the items in the set of those left
  pub items_of-next : items_of (set_of r.left) ≡ r.left
  items_of-next = items-set_of r.left (sublist-trans items_left (range-sublist 1 most_items set_bits (omega arith)))

  -- where somebody waits, an allowance that is enough for this round is enough for the next
  pub enough-next : (allowance : ℕ) → (set_of r.waiting ≡ 0 → ⊥) → EnoughFor allowance left set → EnoughFor allowance (set_of r.waiting) (set_of r.left)
  enough-next allowance some enough =
      let agents = agents_in left in
      let items = items_of set in
      let fewer = length-sublist (waiting-sub G agents items) in
      let less = length-sublist (left-sub G agents items) in
      rw (agents_in-next, items_of-next)
      (le_trans (fewer-growths (length r.waiting) (length agents) (length r.left) (length items) (some-member r.waiting some) fewer less) enough)

  -- where somebody waits, the next round may start
  pub cuttable-next : (set_of r.waiting ≡ 0 → ⊥) → Cuttable (set_of r.waiting) (set_of r.left)
  unfolding round
  cuttable-next some =
      record {
        small_left = waiting-below (cut_suits G (agents_in left) (items_of set)) (cutter_of (agents_in left)) (agents_in-sublist left);
        some_left = rw agents_in-next (some-member r.waiting some);
        small_set = set_of-below most_items items_left;
      }
