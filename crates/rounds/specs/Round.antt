-- The rounds: who cuts, who waits, who is served with what, and what is put together for those who wait.
-- Assumes nothing: these are definitions.
use Rattle.std.specs.Prelude.{Bool, not, cond, List, [], ◌∷◌, map, ℕ, zero, suc, ◌*◌, eqb, leb, length}
use Rattle.lists.specs.Lists.{nth, elem}
use Rattle.sheet.specs.Valuations.{item_value, value}
use Rattle.bundling.specs.Bundles.{items_in, bundle}
use Rattle.maximin.specs.Share.{maximin_partition}
use Rattle.terms.specs.declared.Terms.{Terms}
use Rattle.sheet.specs.Tables.{valuation_of}
use Rattle.matching.specs.Matching.{cutter_of, waiting_of, served_of, chosen_of}

-- one round: the agents and items left when it begins, and what it settles; the agents served have the bundles at the same places
pub record Round : Type 0 where
  pub agents : List ℕ
  pub items : List ℕ
  pub cutter : ℕ
  pub served : List ℕ
  pub bundles : List (List ℕ)
  pub waiting : List ℕ
  pub left : List ℕ

-- what stays the same in all rounds: the terms, the valuations and, "always over all pieces and N piles", the shares
pub record Instance : Type 0 where
  pub terms : Terms
  pub valuations : List (List ℕ)
  pub shares : List ℕ

module _ (G : Instance) where
  -- "A pile suits a yard when bottom × worth is at least top × that yard's maximin share"
  abbrev pub items_suit : ℕ → List ℕ → Bool
  items_suit agent items = leb (G.terms.top * nth 0 G.shares agent) (G.terms.bottom * value (valuation_of G.valuations agent) items)

  -- whether bundle c of a partition of the items suits the agent
  abbrev pub suits_in : (items l : List ℕ) (agent c : ℕ) → Bool
  suits_in items l agent c = items_suit agent (bundle items l c)

  -- "It cuts the pieces left into n piles"
  abbrev pub cut_by : ℕ → ℕ → List ℕ → List ℕ
  cut_by agent n items = maximin_partition n (map (item_value (valuation_of G.valuations agent)) items)

  -- "One round has n yards left and a set of pieces left"
  unfoldable pub round : List ℕ → List ℕ → Round
  round agents items =
      let cutter = cutter_of agents in
      let l = cut_by cutter (length agents) items in
      let suits : ℕ → ℕ → Bool = suits_in items l in
      record {
        agents = agents;
        items = items;
        cutter = cutter;
        served = served_of suits cutter agents;
        bundles = map (bundle items l) (chosen_of suits cutter agents);
        waiting = waiting_of suits cutter agents;
        left = items_in (λ c. not (elem c (chosen_of suits cutter agents))) items l;
      }

  -- "If yards wait, the pieces of every pile not handed out are put together, and the waiting yards divide them by the same steps":
  -- the rounds of the agents and items left, at most as many as `most`
  unfoldable pub rounds : ℕ → List ℕ → List ℕ → List Round
  rounds zero agents items = []
  rounds (suc most) [] items = []
  rounds (suc most) (agent ∷ agents) items =
      let r = round (agent ∷ agents) items in
      r ∷ rounds most r.waiting r.left

-- the bundle of the agent, where it is one of those served, and `later` where not
abbrev pub given : ℕ → List ℕ → List (List ℕ) → List ℕ → List ℕ
given agent [] bundles later = later
given agent (a ∷ served) [] later = later
given agent (a ∷ served) (b ∷ bundles) later = cond (eqb agent a) b (given agent served bundles later)

-- the bundle that the agent is served in one of the rounds, and [] where it is served in none
unfoldable pub held : List Round → ℕ → List ℕ
held [] agent = []
held (r ∷ rs) agent = given agent r.served r.bundles (held rs agent)
