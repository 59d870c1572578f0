-- The parts of a round: who waits and who is served, and that what is handed out and what is left are parts of the items. Assumes nothing.
use mathlib.Core.Path.{◌≡◌, refl, sym, ap, ◌∙◌}
use mathlib.Core.Bool.{Bool, true, false, not, true≢false}
use mathlib.Core.List.Memᴰ
use mathlib.Core.List.{List, Memᴰ as Mem}
use mathlib.Core.List.{Sublistᴰ as Sublist}
use Prim.Native.Nat.{ℕ, ◌≤◌, ◌<◌}
use lib.Dec.{eqb}
use lib.ListN.{length}
use Rattle.lists.specs.Lists.{elem}
use Rattle.lists.proofs.members.Counting.{mem-filter, reject-mem}
use Rattle.lists.proofs.members.Distinct.{not-mem-elem}
use Rattle.matching.specs.Matching.{served_agents, cutter_of, chosen_of}
use Rattle.bundling.specs.Bundles.{bundle}
use Rattle.rounds.specs.Round.{Instance, suits_in, cut_by, Round, round}
use Rattle.bundling.proofs.Bundles.{items_in-sublist}
use Rattle.matching.proofs.Cutter.{cutter_of-mem}
use Rattle.matching.proofs.AllServed.{waiting-sublist, waiting-fewer}

module _ (G : Instance) (agents items : List ℕ) where
  -- the cutter's cut of the items left into as many bundles as there are agents left
  abbrev pub cutter_cut : List ℕ
  cutter_cut = cut_by G (cutter_of agents) (length agents) items

  -- which bundles of the cutter's cut suit whom
  abbrev pub cut_suits : ℕ → ℕ → Bool
  cut_suits = suits_in G items cutter_cut

  abbrev r : Round
  r = round G agents items

  pub round-begins : (r.agents ≡ agents) × (r.items ≡ items)
  unfolding round
  round-begins = (refl, refl)

  pub round-cutter : r.cutter ≡ cutter_of agents
  unfolding round
  round-cutter = refl

  pub waiting-sub : Sublist r.waiting agents
  unfolding round
  waiting-sub = waiting-sublist cut_suits (cutter_of agents) agents

  pub waiting-falls : 1 ≤ length agents → length r.waiting < length agents
  unfolding round
  waiting-falls some = waiting-fewer cut_suits (cutter_of agents) agents (cutter_of-mem agents some)

  pub left-sub : Sublist r.left items
  unfolding round
  left-sub = items_in-sublist _ items (cutter_cut)

  pub bundles-sub : (b : List ℕ) → Mem b r.bundles → Sublist b items
  unfolding round
  bundles-sub b m =
      let l = cutter_cut in
      let (c, mc, e) = Memᴰ.of_map (bundle items l) (chosen_of cut_suits (cutter_of agents) agents) m in
      rw (← e) (items_in-sublist (eqb c) items l)

  -- the agents served are those that do not wait
  pub served-parts : r.served ≡ served_agents r.waiting agents
  unfolding round
  served-parts = refl

  pub waiting-not-served : (agent : ℕ) → elem agent r.waiting ≡ true → elem agent r.served ≡ false
  waiting-not-served agent e =
      rw served-parts (not-mem-elem agent (served_agents r.waiting agents) (λ m. true≢false (sym e ∙ (reject-mem (λ a. elem a r.waiting) agents m).1)))

  pub not-waiting-served : (agent : ℕ) → Mem agent agents → elem agent r.waiting ≡ false → Mem agent r.served
  not-waiting-served agent m e = rw served-parts (mem-filter (λ a. not (elem a r.waiting)) m (ap not e))
