-- The invariant of the rounds: every round keeps it, serves every agent that does not wait and loses no item. Assumes nothing.
use mathlib.Core.Path.{◌≡◌, ap, ◌∙◌}
use mathlib.Core.Bool.{Bool, true, not}
use mathlib.Core.List.{List, [], map, Memᴰ as Mem}
use mathlib.Core.List.Sublistᴰ.{refl as sublist-refl}
use mathlib.Core.List.Sublistᴰ.{trans as sublist-trans}
use mathlib.Core.List.{Sublistᴰ as Sublist}
use Prim.Native.Nat.{ℕ, ◌+◌, ◌*◌, ◌-◌, ◌≤◌}
use native.Mathlib.Nat.{le_trans, le_of_lt, mul-le-mul_left, mul-add, add-mul}
use native.Mathlib.Omega.{arith}
use lib.ListN.{length, length-map}
use borrow.Author.Tests.{le-leb, leb-false}
use Rattle.lists.specs.Lists.{range, Within, nth, elem, distinct}
use Rattle.lists.specs.Sums.{total, sum_over}
use Rattle.lists.proofs.ranges.Ranges.{range-bounds, length-range, within-mem}
use Rattle.lists.proofs.sums.LeastOf.{least_of-le}
use Rattle.lists.proofs.members.Counting.{reject-sublist, sublist-mem, length-sublist, count-sublist}
use Rattle.lists.proofs.members.Distinct.{range-distinct, submultiset-distinct, mem-elem}
use Rattle.lists.proofs.sums.Totals.{sum_over-le, map-sublist}
use Rattle.sheet.specs.Valuations.{item_value, value}
use Rattle.maximin.specs.Share.{bundle_value, maximin_share}
use Rattle.maximin.proofs.Laws.{maximin_partition-within, least_bundle-maximin_partition}
use Rattle.sheet.specs.Tables.{valuation_of}
use Rattle.sheet.specs.Contents.{sheet_of}
use Rattle.shares.specs.Shares.{share_of}
use Rattle.matching.specs.Matching.{Matched, cutter_of, bundle_numbers, waiting_of, served_of, free_of, chosen_of}
use Rattle.bundling.specs.Bundles.{bundle}
use Rattle.rounds.specs.Round.{Instance, items_suit, Round, round}
use Rattle.matching.proofs.Matching.{suited-length}
use mathlib.Core.List.{map-map}
use Rattle.bundling.proofs.Bundles.{items_in-none}
use Rattle.bundling.proofs.Sums.{bundle_value-items, sum_over-handed}
use Rattle.rounds.proofs.round.Held.{AllSuit, suited-all_suit}
use Rattle.matching.proofs.Cutter.{cutter_of-mem}
use Rattle.matching.proofs.AllServed.{served-or-waiting, free-unsuited, served-matched, none-waiting-all-handed}
use Rattle.terms.specs.Allowed.{AtMostStandard}
use Rattle.rounds.proofs.density.Balance.{density-balance}
use Rattle.rounds.proofs.round.Parts.{cutter_cut, cut_suits, waiting-sub, left-sub}

-- an instance of N agents and M items: terms that promise no more than document 01, and shares by the valuations
pub record Sound (N M : ℕ) (G : Instance) : Type 0 where
  pub allowed : AtMostStandard N G.terms
  pub own_shares : (agent : ℕ) → Mem agent (range 1 N) → nth 0 G.shares agent ≡ share_of (sheet_of N M G.valuations) agent

-- the value of items to an agent
abbrev value_to : Instance → ℕ → List ℕ → ℕ
value_to G agent items = value (valuation_of G.valuations agent) items

-- top × its share
abbrev promised : Instance → ℕ → ℕ
promised G agent = G.terms.top * nth 0 G.shares agent

-- the invariant of the rounds: to each agent left, the items gone are worth at most the part top / bottom of its share for each agent gone
pub record Left (N M : ℕ) (G : Instance) (agents items : List ℕ) : Type 0 where
  pub of_agents : Sublist agents (range 1 N)
  pub of_items : Sublist items (range 1 M)
  pub enough : (agent : ℕ) → Mem agent agents
      → G.terms.bottom * value_to G agent (range 1 M) ≤ G.terms.bottom * value_to G agent items + (N - length agents) * promised G agent

-- at first all agents and all items are left
pub left-all : (N M : ℕ) (G : Instance) → Left N M G (range 1 N) (range 1 M)
left-all N M G = record { of_agents = sublist-refl (range 1 N); of_items = sublist-refl (range 1 M); enough = λ agent m. omega arith }

module _ {N M : ℕ} {G : Instance} {agents items : List ℕ} (sound : Sound N M G) (some : 1 ≤ length agents) (state : Left N M G agents items) where
  abbrev n : ℕ
  n = length agents

  abbrev cutter : ℕ
  cutter = cutter_of agents

  abbrev l : List ℕ
  l = cutter_cut G agents items

  abbrev suits : ℕ → ℕ → Bool
  suits = cut_suits G agents items

  abbrev r : Round
  r = round G agents items

  abbrev cutter_value : ℕ → ℕ
  cutter_value = item_value (valuation_of G.valuations cutter)

  cutter_left : Mem cutter agents
  cutter_left = cutter_of-mem agents some

  pub agents-distinct : distinct agents ≡ true
  agents-distinct = submultiset-distinct agents (range 1 N) (count-sublist state.of_agents) (range-distinct 1 N)

  pub served-distinct : distinct r.served ≡ true
  unfolding round
  served-distinct =
      submultiset-distinct (served_of suits cutter agents) agents (count-sublist (reject-sublist (λ a. elem a (waiting_of suits cutter agents)) agents)) agents-distinct

  agents-few : n ≤ N
  agents-few = omega (arith, length-sublist state.of_agents, length-range 1 N)

  -- the cut gives each item left one of as many bundles as there are agents left
  cut-within : Within n l × (length l ≡ length items)
  cut-within =
      let (within, same) = maximin_partition-within n (map cutter_value items) some in
      (within, same ∙ length-map items cutter_value)

  -- the share of what is left is at least the part of the cutter's share
  share-left : promised G cutter ≤ G.terms.bottom * maximin_share n (map cutter_value items)
  share-left =
      let mine = sound.own_shares cutter (sublist-mem state.of_agents cutter_left) in
      rw mine (density-balance N n (N - n) G.terms sound.allowed some (omega (arith, agents-few))
      (map cutter_value (range 1 M)) (map cutter_value items) (map-sublist cutter_value state.of_items)
      (rw mine at (state.enough cutter cutter_left)))

  -- every bundle of its cut suits the cutter
  cutter-suited : (c : ℕ) → Mem c (bundle_numbers agents) → suits cutter c ≡ true
  cutter-suited c m =
      let (lo, hi) = range-bounds 1 n m in
      let least = least_of-le (λ d. bundle_value d (map cutter_value items) l) n c lo (omega arith) in
      le-leb _ _ (le_trans share-left (mul-le-mul_left G.terms.bottom
      (omega (arith, least, least_bundle-maximin_partition n (map cutter_value items) some, bundle_value-items cutter_value c items l))))

  -- the agents served are matched with free bundles
  pub matched : Matched suits (served_of suits cutter agents) (free_of suits cutter agents) (chosen_of suits cutter agents)
  matched = served-matched suits cutter agents cutter-suited

  -- every agent that does not wait is served with a bundle that suits it
  pub round-suits : AllSuit (items_suit G) r.served r.bundles
  unfolding round
  round-suits = suited-all_suit (items_suit G) (bundle items l) (served_of suits cutter agents) (chosen_of suits cutter agents) matched.suits_each

  handed-and-left : (w : ℕ → ℕ) → sum_over (λ c. sum_over w (bundle items l c)) (chosen_of suits cutter agents) + sum_over w r.left ≡ sum_over w items
  unfolding round
  handed-and-left w = sum_over-handed w (chosen_of suits cutter agents) items l matched.injective cut-within.1

  -- the bundles handed out and what is left are all items
  pub round_items : (w : ℕ → ℕ) → total (map (sum_over w) r.bundles) + sum_over w r.left ≡ sum_over w items
  unfolding round
  round_items w =
      ap (λ v. total v + sum_over w r.left) (map-map (sum_over w) (bundle items l) (chosen_of suits cutter agents))
      ∙ handed-and-left w

  -- where no agent waits, nothing is left
  pub none-waiting-none-left : length r.waiting ≡ 0 → r.left ≡ []
  unfolding round
  none-waiting-none-left none =
      items_in-none (λ c. not (elem c (chosen_of suits cutter agents))) items l
      (λ c m. ap not (mem-elem (handed c (within-mem n l cut-within.0 c m))))
    where
      handed : (c : ℕ) → Mem c (bundle_numbers agents) → Mem c (chosen_of suits cutter agents)
      handed = none-waiting-all-handed suits cutter agents cutter-suited agents-distinct none

  -- to an agent that waits, what is handed out is worth at most the part top / bottom of its share for each agent served
  handed-short : (agent : ℕ) → Mem agent (waiting_of suits cutter agents)
      → G.terms.bottom * sum_over (λ c. value_to G agent (bundle items l c)) (chosen_of suits cutter agents) ≤ length (chosen_of suits cutter agents) * promised G agent
  handed-short agent m =
      sum_over-le (λ c. value_to G agent (bundle items l c)) G.terms.bottom (promised G agent) (chosen_of suits cutter agents)
      (λ c mc. le_of_lt (leb-false (promised G agent) (G.terms.bottom * value_to G agent (bundle items l c))
      (free-unsuited suits cutter agents agent c m (matched.from_bundles c mc))))

  agents-gone : N - length (waiting_of suits cutter agents) ≡ (N - n) + length (chosen_of suits cutter agents)
  agents-gone = omega (
    arith,
    agents-few,
    served-or-waiting suits cutter agents agents-distinct,
    suited-length suits (served_of suits cutter agents) (chosen_of suits cutter agents) matched.suits_each,
  )

  -- the invariant is kept
  pub left-next : Left N M G r.waiting r.left
  unfolding round
  left-next =
      record {
        of_agents = sublist-trans (waiting-sub G agents items) state.of_agents;
        of_items = sublist-trans (left-sub G agents items) state.of_items;
        enough = λ agent m. rw (agents-gone, add-mul (N - n) (length (chosen_of suits cutter agents)) (promised G agent)) (kept agent m);
      }
    where
      kept : (agent : ℕ) → Mem agent (waiting_of suits cutter agents)
          → G.terms.bottom * value_to G agent (range 1 M)
          ≤ G.terms.bottom * value_to G agent r.left + ((N - n) * promised G agent + length (chosen_of suits cutter agents) * promised G agent)
      kept agent m = omega (
        arith,
        state.enough agent (sublist-mem (waiting-sub G agents items) m),
        handed-short agent m,
        mul-add G.terms.bottom (sum_over (λ c. value_to G agent (bundle items l c)) (chosen_of suits cutter agents)) (value_to G agent r.left),
        ap (λ v. G.terms.bottom * v) (handed-and-left (item_value (valuation_of G.valuations agent))),
      )
