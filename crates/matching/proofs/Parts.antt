-- The parts of one round of the agents left: agents and bundles that wait, are served and are chosen. Assumes nothing.
use mathlib.Core.Path.{◌≡◌, ap, ◌∙◌}
use mathlib.Core.Bool.{Bool, true, not, or-false}
use mathlib.Core.List.{List, [], ◌∷◌}
use mathlib.Core.List.{Sublistᴰ as Sublist}
use Prim.Native.Nat.{ℕ, ◌≤◌}
use lib.Dec.{eqb}
use lib.ListN.{length}
use Rattle.lists.specs.Lists.{elem, distinct, Within}
use Rattle.lists.proofs.ranges.Ranges.{mem-within}
use Rattle.lists.proofs.members.Counting.{sublist-mem, reject-mem, reject-sublist}
use Rattle.lists.proofs.members.Congruence.{filter-cong}
use Rattle.lists.proofs.members.Distinct.{eqb_comm}
use Rattle.matching.specs.Matching.{without, served_agents, wanted, free_bundles, matching, bundle_numbers, waiting_of, served_of, free_of, chosen_of}
use Rattle.matching.proofs.AllServed.{waiting-sublist}
use Rattle.matching.proofs.Chosen.{chosen-distinct, chosen-free, chosen-few}
use Rattle.matching.proofs.Congruence.{Agree, waiting_set-cong, free_bundles-cong, matching-cong}

-- the agents who are not among one are those without it
pub without-one : (cutter : ℕ) (agents : List ℕ) → served_agents (cutter ∷ []) agents ≡ without cutter agents
without-one cutter agents =
    filter-cong (λ agent. not (elem agent (cutter ∷ []))) (λ agent. not (eqb cutter agent)) agents
    (λ agent m. ap not (or-false (eqb agent cutter) ∙ eqb_comm agent cutter))

module _ (suits : ℕ → ℕ → Bool) (cutter : ℕ) (agents : List ℕ) where
  pub served_of-sublist : Sublist (served_of suits cutter agents) agents
  served_of-sublist = reject-sublist (λ agent. elem agent (waiting_of suits cutter agents)) agents

  -- the free bundles and those chosen are numbers of bundles
  pub free_of-sublist : Sublist (free_of suits cutter agents) (bundle_numbers agents)
  free_of-sublist = reject-sublist (wanted suits (waiting_of suits cutter agents)) (bundle_numbers agents)

  pub chosen_of-within : Within (length agents) (chosen_of suits cutter agents)
  chosen_of-within =
      mem-within (length agents) (chosen_of suits cutter agents)
      (λ bundle m. sublist-mem free_of-sublist (chosen-free suits (served_of suits cutter agents) (free_of suits cutter agents) bundle m))

  pub chosen_of-distinct : distinct (chosen_of suits cutter agents) ≡ true
  chosen_of-distinct = chosen-distinct suits (served_of suits cutter agents) (free_of suits cutter agents)

  -- no more bundles are chosen than agents are served
  pub chosen_of-few : length (chosen_of suits cutter agents) ≤ length (served_of suits cutter agents)
  chosen_of-few = chosen-few suits (served_of suits cutter agents) (free_of suits cutter agents)

-- who waits and what is chosen go by what suits the agents left, and by nothing else
module _ (s t : ℕ → ℕ → Bool) (cutter : ℕ) (agents : List ℕ) (same : Agree s t agents (bundle_numbers agents)) where
  pub waiting_of-cong : waiting_of s cutter agents ≡ waiting_of t cutter agents
  waiting_of-cong =
      waiting_set-cong s t (without cutter agents) (bundle_numbers agents) (λ agent m. same agent (reject-mem (eqb cutter) agents m).0)

  pub served_of-cong : served_of s cutter agents ≡ served_of t cutter agents
  served_of-cong = ap (λ waiting. served_agents waiting agents) waiting_of-cong

  pub chosen_of-cong : chosen_of s cutter agents ≡ chosen_of t cutter agents
  chosen_of-cong =
      ap (λ waiting. matching s (served_agents waiting agents) (free_bundles s waiting (bundle_numbers agents))) waiting_of-cong
      ∙ ap (matching s (served_of t cutter agents))
      (free_bundles-cong s t (waiting_of t cutter agents) (bundle_numbers agents) (λ agent m. same agent (sublist-mem (waiting-sublist t cutter agents) m)))
      ∙ matching-cong s t (served_of t cutter agents) (free_of t cutter agents)
      (λ agent m bundle n. same agent (sublist-mem (served_of-sublist t cutter agents) m) bundle (sublist-mem (free_of-sublist t cutter agents) n))
