-- The sentences of document 01, "Share and cut" and "Rounds", as statements on a cut, on a round, on a list of rounds and on a division.
-- Assumes nothing: these are definitions.
use Rattle.std.specs.Prelude.{◌≡◌, Bool, not, ℕ, ◌≤◌, length}
use mathlib.Core.List.{List, [], ◌∷◌, map, Memᴰ as Mem}
use mathlib.Core.List.{Sublistᴰ as Sublist}
use Rattle.lists.specs.Lists.{range, Within, Rising, nth, count, elem}
use Rattle.lists.specs.Dictionary.{Precedes}
use Rattle.sheet.specs.Valuations.{item_value}
use Rattle.sheet.specs.Tables.{valuation_of, all_values}
use Rattle.sheet.specs.Contents.{Contents, valuations_of}
use Rattle.maximin.specs.Share.{least_bundle}
use Rattle.terms.specs.declared.Terms.{Terms}
use Rattle.matching.specs.Matching.{without, served_agents, neighbours, free_bundles, Matched, bundle_numbers}
use Rattle.bundling.specs.Bundles.{items_in, bundle}
use Rattle.rounds.specs.Round.{Instance, suits_in, Round}
use Rattle.rounds.specs.Division.{Division}

-- the sentences of document 01, "Share and cut", on items of these values and n bundles
module _ (n : ℕ) (values : List ℕ) where
  -- "A layout gives each piece of the set, in rising order, a pile from 1 to n"
  abbrev pub IsPartition : List ℕ → Type 0
  IsPartition l = Within n l × (length l ≡ length values)

  pub record ShareAndCut (share : ℕ) (cut : List ℕ) : Type 0 where
    -- "The maximin share is the greatest least pile over all layouts"
    pub share_greatest : (l : List ℕ) → IsPartition l → least_bundle n values l ≤ share
    -- "The cut is a layout that reaches it."
    pub cut_partition : IsPartition cut
    pub cut_reaches : least_bundle n values cut ≡ share
    -- "of several lists of numbers, the first in dictionary order"
    pub cut_first : (l : List ℕ) → IsPartition l → least_bundle n values l ≡ share → Precedes cut l

module _ (G : Instance) (r : Round) where
  -- the cutter's values of the items left
  abbrev pub values_left : List ℕ
  values_left = map (item_value (valuation_of G.valuations r.cutter)) r.items

  -- a "set of yards left, without the cutter, for which at most as many piles suit some yard of the set as the set has yards", in rising order
  abbrev pub TightSet : List ℕ → List ℕ → Type 0
  TightSet cut set = Sublist set (without r.cutter r.agents) × (neighbours (suits_in G r.items cut) set (bundle_numbers r.agents) ≤ length set)

  -- a way to serve "from the piles that suit no waiting yard: each gets one pile that suits it, no pile twice", as "the pile numbers of
  -- the served yards in rising yard order"
  abbrev pub IsMatching : List ℕ → List ℕ → Type 0
  IsMatching cut chosen =
      let suits : ℕ → ℕ → Bool = suits_in G r.items cut in
      Matched suits r.served (free_bundles suits r.waiting (bundle_numbers r.agents)) chosen

  -- the sentences of document 01, "Rounds", on one round
  pub record RoundAsDocumented : Type 0 where
    -- "One round has n yards left and a set of pieces left."
    pub agents_rise : Rising r.agents
    pub items_rise : Rising r.items
    -- "The cutter is the lowest-numbered yard left."
    pub cutter_left : Mem r.cutter r.agents
    pub cutter_lowest : (agent : ℕ) → Mem agent r.agents → r.cutter ≤ agent
    -- "It cuts the pieces left into n piles.": by a layout whose least pile is the greatest, of several such layouts by the first
    pub share_of_left : ℕ
    pub cut : List ℕ
    pub cut_of_left : ShareAndCut (length r.agents) values_left share_of_left cut
    -- "The waiting set is the largest set of yards left, without the cutter, for which .." "Of several largest sets, the tie rule picks"
    pub waiting_tight : TightSet cut r.waiting
    pub waiting_largest : (set : List ℕ) → TightSet cut set → length set ≤ length r.waiting
    pub waiting_first : (set : List ℕ) → TightSet cut set → length r.waiting ≡ length set → Precedes r.waiting set
    -- "The other yards, the cutter among them, are served"
    pub served_others : r.served ≡ served_agents r.waiting r.agents
    pub cutter_served : Mem r.cutter r.served
    -- "from the piles that suit no waiting yard: each gets one pile that suits it, no pile twice. .. the tie rule picks."
    pub chosen : List ℕ
    pub chosen_serves : IsMatching cut chosen
    pub chosen_first : (other : List ℕ) → IsMatching cut other → Precedes chosen other
    pub bundles_chosen : r.bundles ≡ map (bundle r.items cut) chosen
    -- "the pieces of every pile not handed out are put together"
    pub left_together : r.left ≡ items_in (λ c. not (elem c chosen)) r.items cut

-- "If yards wait, .. the waiting yards divide them by the same steps": each round begins with what the one before it left, until no agent waits
abbrev pub FollowOn : List ℕ → List ℕ → List Round → Type 0
FollowOn agents items [] = agents ≡ []
FollowOn agents items (r ∷ rs) = (r.agents ≡ agents) × (r.items ≡ items) × FollowOn r.waiting r.left rs

module _ (sheet : Contents) (terms : Terms) (d : Division) where
  -- what the rounds of a division go by: the terms, the places in use of the table, and the shares in the division
  abbrev pub instance_in : Instance
  instance_in = record { terms = terms; valuations = valuations_of sheet; shares = d.shares }

  -- demand 2, of the division of a sheet, by the terms: "Each yard's maximin share, the cut that shows it, every
  -- round and every pile are those of section 3.1 of the paper, with ties settled as document 01 says."
  pub record DividedAsDocumented : Type 0 where
    -- "Each yard's maximin share, the cut that shows it": "over all pieces and N piles", by the marks of the table
    pub share_each : length d.shares ≡ sheet.agents
    pub cut_each : length d.cuts ≡ sheet.agents
    pub share_and_cut : (agent : ℕ) → 1 ≤ agent → agent ≤ sheet.agents
        → ShareAndCut sheet.agents (all_values sheet.items (valuation_of sheet.table agent)) (nth 0 d.shares agent) (nth [] d.cuts agent)
    -- "every round": from all agents and all items, each as document 01 says, until no agent waits
    pub rounds : List Round
    pub rounds_follow_on : FollowOn (range 1 sheet.agents) (range 1 sheet.items) rounds
    pub rounds_as_documented : (r : Round) → Mem r rounds → RoundAsDocumented instance_in r
    -- "the cutter of each round in turn"
    pub cutters_of_rounds : d.cutters ≡ map (λ r. r.cutter) rounds
    -- "every pile": each agent is served in one round, and its bundle is the one at its place among those served there
    pub bundle_each : length d.bundles ≡ sheet.agents
    pub served_once : (agent : ℕ) → 1 ≤ agent → agent ≤ sheet.agents → count (λ r. elem agent r.served) rounds ≡ 1
    pub bundles_of_rounds : (r : Round) → Mem r rounds → (k : ℕ) → 1 ≤ k → k ≤ length r.served
        → nth [] d.bundles (nth 0 r.served k) ≡ nth [] r.bundles k
