-- The code's round: by the cutter's partition it settles what the definition's round does.
-- Assumes nothing.
use mathlib.Core.Path.{◌≡◌, sym, ap, ap₂, ◌∙◌}
use mathlib.Core.Bool.{Bool, false}
use mathlib.Core.List.{List, [], map, map-map, Memᴰ as Mem}
use mathlib.Core.List.Sublistᴰ.{trans as sublist-trans}
use Prim.Native.Nat.{ℕ, ◌+◌, ◌-◌, ◌*◌, min}
use native.Mathlib.Omega.{arith}
use lib.Dec.{eqb, leb}
use lib.ListN.{length, length-map}
use Rattle.lists.specs.Lists.{range, zeros, nth, padded, Within}
use Rattle.lists.specs.Sums.{total}
use Rattle.lists.proofs.ranges.Ranges.{within-mem, nth-map-range, range-sublist}
use Rattle.lists.proofs.members.Counting.{sublist-mem}
use Rattle.lists.proofs.sums.Totals.{map-cong}
use Rattle.lists.proofs.places.Zeros.{total-zeros}
use Rattle.lists.proofs.ranges.RangeSublists.{range-sublist-few}
use Rattle.sheet.specs.Limits.{most_agents, most_items, set_bits, greatest_sum}
use Rattle.sheet.specs.Sets.{items_of, set_of}
use Rattle.sheet.specs.Valuations.{item_value, value}
use Rattle.sheet.specs.Tables.{valuation_of}
use Rattle.sheet.specs.Amounts.{SmallAmounts}
use Rattle.sheet.proofs.sets.Sets.{items-set_of}
use Rattle.sheet.proofs.sets.Items.{items-sublist, set_of-items}
use Rattle.bundling.specs.Bundles.{bundle, bundle_sets}
use Rattle.bundling.proofs.Bundles.{items_in-sublist, items_in-append}
use Rattle.cut.specs.Outcome.{placed}
use Rattle.maximin.proofs.Laws.{maximin_partition-within}
use Rattle.matching.specs.Matching.{cutter_of, bundle_numbers, waiting_of, served_of, chosen_of}
use Rattle.matching.proofs.Congruence.{Agree}
use Rattle.matching.proofs.Parts.{chosen_of-distinct, waiting_of-cong, served_of-cong, chosen_of-cong}
use Rattle.serving.specs.Serving.{agents_in}
use Rattle.serving.proofs.round.AgentsLeft.{agents_in-sublist}
use Rattle.serving.proofs.round.Parts.{chosen_within}
use Rattle.terms.specs.Allowed.{SmallTerms}
use Rattle.terms.specs.declared.Terms.{Terms}
use Rattle.margins.specs.Margins.{limited_terms}
use Rattle.margins.proofs.Stored.{limited_terms-small}
use Rattle.rounds.specs.Round.{Instance, Round, round}
use Rattle.rounds.proofs.round.Parts.{cutter_cut, cut_suits}
use Rattle.settling.specs.Suiting.{set_suits, suits_row, suits_table}
use Rattle.settling.specs.Settling.{bundle_suits, settled_by}
use Rattle.settling.specs.declared.Settled.{Settled}
use Rattle.division.specs.internal.Left.{instance_from, Cuttable}
use Rattle.division.proofs.round.SetSums.{set_of-handed}

-- what a round settles, as the code has it: sets for bundles, for those who wait and for the items left
abbrev pub settled : Round → Settled
settled r =
    record {
      served = r.served;
      sets = padded most_agents 0 (map set_of r.bundles);
      waiting = set_of r.waiting;
      left = set_of r.left;
    }

module _ {left set : ℕ} (ok : Cuttable left set) (terms : Terms) (small_terms : SmallTerms terms) (table : List (List ℕ)) (shares : List ℕ) (small : SmallAmounts shares) where
  -- the agents left
  abbrev agents : List ℕ
  agents = agents_in left

  abbrev G : Instance
  G = instance_from terms table shares

  abbrev cutter : ℕ
  cutter = cutter_of agents

  -- the cutter's partition
  abbrev l : List ℕ
  l = cutter_cut G agents (items_of set)

  -- its bundles as sets
  abbrev cut_sets : List ℕ
  cut_sets = bundle_sets set (placed l)

  -- what suits whom, by the definition
  abbrev suits : ℕ → ℕ → Bool
  suits = cut_suits G agents (items_of set)

  entry_each : length l ≡ length (items_of set)
  entry_each =
      let v = item_value (valuation_of table cutter) in
      (maximin_partition-within (length agents) (map v (items_of set)) ok.some_left).1 ∙ length-map (items_of set) v

  -- set c is that of bundle c
  nth-cut_sets : (c : ℕ) → Mem c (range 1 most_agents) → nth 0 cut_sets c ≡ set_of (bundle (items_of set) l c)
  unfolding bundle_sets
  nth-cut_sets c m =
      nth-map-range (λ c. set_of (bundle (items_of set) (placed l) c)) 0 most_agents m
      ∙ ap set_of (items_in-append (eqb c) (items_of set) l (zeros (most_items - length l)) (omega (arith, entry_each)))

  -- its items are those of bundle c
  items-cut_sets : (c : ℕ) → Mem c (range 1 most_agents) → items_of (nth 0 cut_sets c) ≡ bundle (items_of set) l c
  items-cut_sets c m =
      ap items_of (nth-cut_sets c m)
      ∙ items-set_of (bundle (items_of set) l c)
      (sublist-trans (items_in-sublist (eqb c) (items_of set) l) (sublist-trans (items-sublist set most_items ok.small_set (omega arith)) (range-sublist 1 most_items set_bits (omega arith))))

  -- the table says which bundles suit whom
  abbrev table_suits : ℕ → ℕ → Bool
  table_suits = bundle_suits terms table shares cutter left set (placed l)

  suits-agree : Agree table_suits suits agents (bundle_numbers agents)
  unfolding suits_table suits_row
  suits-agree agent ma c mc =
      let mostly = sublist-mem (range-sublist 1 (length agents) most_agents (range-sublist-few most_agents (agents_in-sublist left))) mc in
      ap (λ row. nth false row c) (nth-map-range (λ a. suits_row terms (valuation_of table a) (nth 0 shares a) cut_sets) [] most_agents (sublist-mem (agents_in-sublist left) ma))
      ∙ nth-map-range (λ c. set_suits terms (valuation_of table agent) (nth 0 shares agent) (nth 0 cut_sets c)) false most_agents mostly
      ∙ ap (suited_by (limited_terms terms) (min (nth 0 shares agent) greatest_sum)) (items-cut_sets c mostly)
      ∙ ap₂ (λ t share. suited_by t share (bundle (items_of set) l c)) (limited_terms-small terms small_terms) share-kept
    where
      -- a list of items, by such terms and with such a share: the code cuts neither
      suited_by : Terms → ℕ → List ℕ → Bool
      suited_by t share ks = leb (t.top * share) (t.bottom * value (valuation_of table agent) ks)

      share-kept : min (nth 0 shares agent) greatest_sum ≡ nth 0 shares agent
      share-kept = omega (arith, small (agent - 1))

  -- the bundles that are handed out
  abbrev handed : List ℕ
  handed = chosen_of suits cutter agents

  handed-within : Within most_agents handed
  handed-within = chosen_within suits cutter (agents_in-sublist left)

  -- their sets
  handed-sets : map (nth 0 cut_sets) handed ≡ map set_of (map (bundle (items_of set) l) handed)
  handed-sets =
      map-cong (nth 0 cut_sets) (λ c. set_of (bundle (items_of set) l c)) handed (λ c m. nth-cut_sets c (within-mem most_agents handed handed-within c m))
      ∙ sym (map-map set_of (bundle (items_of set) l) handed)

  -- they are parts of the set, and what is left is the set of the items that are not handed out
  handed-and-left : total (padded most_agents 0 (map (nth 0 cut_sets) handed)) + set_of (round G agents (items_of set)).left ≡ set
  unfolding round
  handed-and-left =
      let sets = map (nth 0 cut_sets) handed in
      omega (
        arith,
        total-zeros sets (most_agents - length sets),
        ap total (handed-sets ∙ map-map set_of (bundle (items_of set) l) handed),
        set_of-handed handed (items_of set) l (chosen_of-distinct suits cutter agents) entry_each,
        set_of-items set most_items ok.small_set (omega arith),
      )

  left-rest : set - total (padded most_agents 0 (map (nth 0 cut_sets) handed)) ≡ set_of (round G agents (items_of set)).left
  left-rest = omega (arith, handed-and-left)

  -- what the code's round settles, from the agents served, those who wait and the sets handed out
  abbrev settled_from : List ℕ → List ℕ → List ℕ → ℕ → Settled
  settled_from served waiting sets rest =
      record { served = served; sets = padded most_agents 0 sets; waiting = set_of waiting; left = rest }

  -- it is what the definition's does
  pub settled-round : settled_by terms table shares cutter left set (placed l) ≡ settled (round G agents (items_of set))
  unfolding settled_by round
  settled-round =
      let sets_of : List ℕ → List ℕ = map (nth 0 cut_sets) in
      let rest_of : List ℕ → ℕ = λ chosen. set - total (padded most_agents 0 (sets_of chosen)) in
      let chosen = chosen_of table_suits cutter agents in
      ap₂ (λ served waiting. settled_from served waiting (sets_of chosen) (rest_of chosen)) (served_of-cong table_suits suits cutter agents suits-agree) (waiting_of-cong table_suits suits cutter agents suits-agree)
      ∙ ap (λ chosen. settled_from (served_of suits cutter agents) (waiting_of suits cutter agents) (sets_of chosen) (rest_of chosen)) (chosen_of-cong table_suits suits cutter agents suits-agree)
      ∙ ap₂ (settled_from (served_of suits cutter agents) (waiting_of suits cutter agents)) handed-sets left-rest
