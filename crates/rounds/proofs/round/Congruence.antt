-- The rounds depend on the terms, the marks and the shares only through what suits the agents left and how each of these cuts. Assumes
-- nothing.
use mathlib.Core.Path.{◌≡◌, refl, ap, ap₂, ◌∙◌}
use mathlib.Core.Bool.{Bool, not}
use mathlib.Core.List.{List, [], ◌∷◌, map, Memᴰ as Mem}
use mathlib.Core.List.Sublistᴰ.{refl as sublist-refl}
use mathlib.Core.List.Sublistᴰ.{trans as sublist-trans}
use mathlib.Core.List.{Sublistᴰ as Sublist}
use Prim.Native.Nat.{ℕ, zero, suc, ◌≤◌}
use native.Mathlib.Omega.{arith}
use lib.Dec.{eqb}
use lib.ListN.{length}
use Rattle.lists.specs.Lists.{elem}
use Rattle.lists.proofs.members.Counting.{sublist-mem}
use Rattle.bundling.specs.Bundles.{items_in, bundle}
use Rattle.bundling.proofs.Bundles.{items_in-sublist}
use Rattle.matching.specs.Matching.{served_agents, cutter_of, bundle_numbers, waiting_of, chosen_of}
use Rattle.matching.proofs.Cutter.{cutter_of-mem}
use Rattle.matching.proofs.Parts.{waiting_of-cong, chosen_of-cong}
use Rattle.matching.proofs.Congruence.{Agree}
use Rattle.rounds.specs.Round.{Round, Instance, items_suit, suits_in, cut_by, round, rounds}
use Rattle.rounds.proofs.round.Parts.{cutter_cut, waiting-sub, left-sub}

-- the same bundles of the items suit the agents, and each of these cuts every part of the items alike
pub record Alike (G H : Instance) (agents items : List ℕ) : Type 0 where
  pub same_suiting : (agent : ℕ) → Mem agent agents → (part : List ℕ) → Sublist part items → items_suit G agent part ≡ items_suit H agent part
  pub same_cuts : (agent : ℕ) → Mem agent agents → (n : ℕ) (part : List ℕ) → Sublist part items → cut_by G agent n part ≡ cut_by H agent n part

module _ (agents items l : List ℕ) where
  abbrev cutter : ℕ
  cutter = cutter_of agents

  -- the round by this cut in which these agents wait and these bundles are handed out
  abbrev round_of : List ℕ → List ℕ → Round
  round_of waiting chosen =
      record {
        agents = agents;
        items = items;
        cutter = cutter;
        served = served_agents waiting agents;
        bundles = map (bundle items l) chosen;
        waiting = waiting;
        left = items_in (λ c. not (elem c chosen)) items l;
      }

  -- the same, where s says which bundles suit whom
  abbrev round_by : (ℕ → ℕ → Bool) → Round
  round_by s = round_of (waiting_of s cutter agents) (chosen_of s cutter agents)

  round_by-cong : (s t : ℕ → ℕ → Bool) → Agree s t agents (bundle_numbers agents) → round_by s ≡ round_by t
  round_by-cong s t agree = ap₂ round_of (waiting_of-cong s t cutter agents agree) (chosen_of-cong s t cutter agents agree)

module _ {G H : Instance} where
  alike-fewer : {agents items agents' items' : List ℕ} → Alike G H agents items → Sublist agents' agents → Sublist items' items → Alike G H agents' items'
  alike-fewer alike fewer-agents fewer-items =
      record {
        same_suiting = λ agent m part s. alike.same_suiting agent (sublist-mem fewer-agents m) part (sublist-trans s fewer-items);
        same_cuts = λ agent m n part s. alike.same_cuts agent (sublist-mem fewer-agents m) n part (sublist-trans s fewer-items);
      }

  pub round-cong : {agents items : List ℕ} → Alike G H agents items → 1 ≤ length agents → round G agents items ≡ round H agents items
  unfolding round
  round-cong {agents} {items} alike some =
      let l = cutter_cut H agents items in
      ap (λ l. round_by agents items l (suits_in G items l)) (alike.same_cuts (cutter_of agents) (cutter_of-mem agents some) (length agents) items (sublist-refl items))
      ∙ round_by-cong agents items l (suits_in G items l) (suits_in H items l) (λ agent m c mc. alike.same_suiting agent m (bundle items l c) (items_in-sublist (eqb c) items l))

  pub rounds-cong : (most : ℕ) (agents items : List ℕ) → Alike G H agents items → rounds G most agents items ≡ rounds H most agents items
  unfolding rounds
  rounds-cong zero agents items alike = refl
  rounds-cong (suc most) [] items alike = refl
  rounds-cong (suc most) (a ∷ agents) items alike =
      let r = round H (a ∷ agents) items in
      ap (λ r. r ∷ rounds G most r.waiting r.left) (round-cong alike (omega arith))
      ∙ ap (λ rs. r ∷ rs) (rounds-cong most r.waiting r.left (alike-fewer alike (waiting-sub H (a ∷ agents) items) (left-sub H (a ∷ agents) items)))
