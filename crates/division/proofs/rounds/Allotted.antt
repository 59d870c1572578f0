-- The allocation after the rounds, one round after the other. Assumes nothing.
use mathlib.Core.Path.{◌≡◌, refl, ap, ap₂, ◌∙◌}
use mathlib.Core.List.{List, [], ◌∷◌, ◌++◌, map}
use Prim.Native.Nat.{ℕ, ◌-◌, ◌≤◌}
use native.Mathlib.Omega.{arith}
use lib.ListN.{length, set}
use Rattle.lists.specs.Lists.{zeros}
use Rattle.lists.proofs.places.Zeros.{get_d-zeros, drop-zeros}
use Rattle.sheet.specs.Sets.{set_of}
use Rattle.rounds.specs.Round.{Instance, round, rounds}
use Rattle.division.specs.internal.Allocation.{stored, with_round, allotted}
use Rattle.division.specs.declared.dividing.Allocation.{Allocation}
use Rattle.rounds.proofs.round.Parts.{waiting-falls}
use Rattle.rounds.proofs.round.Rounds.{rounds-enough}

-- zeros after the sets change nothing
pub stored-zeros : (served sets : List ℕ) (k : ℕ) (places : List ℕ) → stored served (sets ++ zeros k) places ≡ stored served sets places
stored-zeros [] sets k places = refl
stored-zeros (agent ∷ served) [] k places =
    ap₂ (λ l x. stored served l (set places (agent - 1) x)) (drop-zeros k 1) (get_d-zeros k 0) ∙ stored-zeros served [] (k - 1) (set places (agent - 1) 0)
stored-zeros (agent ∷ served) (x ∷ sets) k places = stored-zeros served sets k (set places (agent - 1) x)

module _ (G : Instance) where
  -- no agents are left
  pub allotted-none : (agents ks : List ℕ) (a : Allocation) → length agents ≡ 0 → allotted (rounds G (length agents) agents ks) a ≡ a
  unfolding rounds allotted
  allotted-none [] ks a none = refl
  allotted-none (agent ∷ agents) ks a none = absurd (omega arith)

  -- one round, and the rounds of those who wait
  pub allotted-next : (agents ks : List ℕ) (a : Allocation) → 1 ≤ length agents
      → let r = round G agents ks in
      allotted (rounds G (length agents) agents ks) a
      ≡ allotted (rounds G (length r.waiting) r.waiting r.left) (with_round r.cutter r.served (map set_of r.bundles) a)
  unfolding rounds allotted
  allotted-next [] ks a some = absurd (omega arith)
  allotted-next (agent ∷ agents) ks a some =
      let r = round G (agent ∷ agents) ks in
      let falls = waiting-falls G (agent ∷ agents) ks some in
      ap (λ rs. allotted rs (with_round r.cutter r.served (map set_of r.bundles) a))
      (rounds-enough G (length agents) (length r.waiting) r.waiting r.left (omega arith) (omega arith))

  -- the last round, in which nobody waits
  pub allotted-last : (agents ks : List ℕ) (a : Allocation) → 1 ≤ length agents → (round G agents ks).waiting ≡ []
      → let r = round G agents ks in
      allotted (rounds G (length agents) agents ks) a ≡ with_round r.cutter r.served (map set_of r.bundles) a
  allotted-last agents ks a some none =
      let r = round G agents ks in
      allotted-next agents ks a some ∙ allotted-none r.waiting r.left (with_round r.cutter r.served (map set_of r.bundles) a) (ap length none)
