-- The allocation after all rounds: the bundle of each agent as a set in its place, and the cutters in turn. Assumes nothing.
use mathlib.Core.Path.{◌≡◌, refl, sym, ap, ◌∙◌}
use mathlib.Core.Bool.{Bool, true, false, true≢false}
use mathlib.Core.Logic.{⊎_elim}
use mathlib.Core.List.Memᴰ.{not-nil}
use mathlib.Core.List.{List, [], ◌∷◌, ◌++◌, map, Memᴰ as Mem}
use Prim.Native.Nat.{ℕ, zero, suc, ◌+◌, ◌-◌, ◌≤◌, ◌<◌}
use native.Mathlib.Nat.{add-sub_cancel, zero-add}
use native.Mathlib.Numerals.{add-one}
use native.Mathlib.Omega.{arith}
use lib.ListN.{length, get_or, length-map, length-append, length-replicate, get_or-eq_default}
use lib.Seq.{sets, sets-eq, ext_get_or}
use Rattle.lists.specs.Lists.{range, zeros, padded, elem, Within}
use Rattle.lists.proofs.ranges.Ranges.{in-range, range-bounds, length-range, mem-within, nth-map-range}
use Rattle.lists.proofs.places.Places.{nth-next}
use Rattle.lists.proofs.members.Counting.{sublist-mem, reject-mem}
use Rattle.lists.proofs.Cases.{lt-or-ge}
use Rattle.lists.proofs.places.Zeros.{drop-zeros, get_d-zeros}
use Rattle.lists.proofs.members.Distinct.{mem-elem, elem_mem, not-mem-elem}
use Rattle.sheet.specs.Limits.{most_agents}
use Rattle.sheet.specs.Sets.{set_of}
use Rattle.rounds.specs.Round.{Instance, Round, items_suit, round, rounds, given, held}
use Rattle.division.specs.internal.Allocation.{empty_allocation, with_round, allotted}
use Rattle.division.specs.declared.dividing.Allocation.{Allocation}
use Rattle.rounds.proofs.round.Rounds.{rounds-few}
use Rattle.rounds.proofs.round.Held.{given-later, all_suit-length}
use Rattle.rounds.proofs.round.Parts.{waiting-sub, waiting-falls, served-parts, waiting-not-served, not-waiting-served}
use Rattle.rounds.proofs.round.Invariant.{Sound, Left, left-all, served-distinct, round-suits, left-next}
use Rattle.division.proofs.rounds.Stored.{stored_length, stored_other, stored-given}

-- the cutters stand in turn from the number of rounds before on
pub allotted-cutters : (rs : List Round) (a : Allocation) → (allotted rs a).cutters ≡ sets a.cutters a.rounds (map (λ r. r.cutter) rs)
unfolding allotted
allotted-cutters [] a = refl
allotted-cutters (r ∷ rs) a =
    let next = with_round r.cutter r.served (map set_of r.bundles) a in
    allotted-cutters rs next ∙ ap (λ i. sets next.cutters i (map (λ r. r.cutter) rs)) (add-one a.rounds)

length-allotted : (rs : List Round) (a : Allocation) → length (allotted rs a).bundles ≡ length a.bundles
unfolding allotted
length-allotted [] a = refl
length-allotted (r ∷ rs) a = length-allotted rs (with_round r.cutter r.served (map set_of r.bundles) a) ∙ stored_length r.served (map set_of r.bundles) a.bundles

module _ (G : Instance) (agents items : List ℕ) where
  served-mem : {agent : ℕ} → Mem agent (round G agents items).served → Mem agent agents
  served-mem m = (reject-mem (λ c. elem c (round G agents items).waiting) agents (rw (served-parts G agents items) at m)).0

  not-left-not-waiting : (agent : ℕ) → elem agent agents ≡ false → elem agent (round G agents items).waiting ≡ false
  not-left-not-waiting agent out = not-mem-elem agent _ (λ m. true≢false (sym (mem-elem (sublist-mem (waiting-sub G agents items) m)) ∙ out))

  not-left-not-served : (agent : ℕ) → elem agent agents ≡ false → elem agent (round G agents items).served ≡ false
  not-left-not-served agent out = not-mem-elem agent _ (λ m. true≢false (sym (mem-elem (served-mem m)) ∙ out))

served-within : {N M : ℕ} {G : Instance} {agents items : List ℕ} → Left N M G agents items → Within N (round G agents items).served
served-within {N} {M} {G} {agents} {items} state = mem-within N (round G agents items).served (λ c m. sublist-mem state.of_agents (served-mem G agents items m))

module _ {N M : ℕ} {G : Instance} (sound : Sound N M G) where
  -- the place of an agent that is not left is kept
  allotted-other : (most : ℕ) (agents items : List ℕ) → length agents ≤ most → Left N M G agents items → (a : Allocation) (agent : ℕ) → 1 ≤ agent → elem agent agents ≡ false
      → get_or (allotted (rounds G most agents items) a).bundles (agent - 1) 0 ≡ get_or a.bundles (agent - 1) 0
  unfolding rounds allotted
  allotted-other zero agents items few state a agent some out = refl
  allotted-other (suc most) [] items few state a agent some out = refl
  allotted-other (suc most) (b ∷ agents) items few state a agent some out =
      let r = round G (b ∷ agents) items in
      let falls = waiting-falls G (b ∷ agents) items (omega arith) in
      allotted-other most r.waiting r.left (omega arith) (left-next sound (omega arith) state) (with_round r.cutter r.served (map set_of r.bundles) a) agent some (not-left-not-waiting G (b ∷ agents) items agent out)
      ∙ stored_other agent some N r.served (map set_of r.bundles) a.bundles (served-within state) (not-left-not-served G (b ∷ agents) items agent out)

  -- the place of an agent that is left gets the set of the bundle that it holds
  allotted-held : (most : ℕ) (agents items : List ℕ) → length agents ≤ most → Left N M G agents items → (a : Allocation) (agent : ℕ) → 1 ≤ agent → agent ≤ length a.bundles → Mem agent agents
      → get_or (allotted (rounds G most agents items) a).bundles (agent - 1) 0 ≡ set_of (held (rounds G most agents items) agent)
  unfolding rounds allotted held
  allotted-held zero [] items few state a agent some room m = absurd (not-nil m)
  allotted-held zero (b ∷ agents) items few state a agent some room m = absurd (omega arith)
  allotted-held (suc most) [] items few state a agent some room m = absurd (not-nil m)
  allotted-held (suc most) (b ∷ agents) items few state a agent some room m =
      step (elem agent r.waiting) refl
      (allotted-held most r.waiting r.left (omega (arith, falls)) after next agent some (omega (arith, stored_length r.served (map set_of r.bundles) a.bundles)))
    where
      r : Round
      r = round G (b ∷ agents) items

      falls : length r.waiting < length (b ∷ agents)
      falls = waiting-falls G (b ∷ agents) items (omega arith)

      after : Left N M G r.waiting r.left
      after = left-next sound (omega arith) state

      rest : List Round
      rest = rounds G most r.waiting r.left

      next : Allocation
      next = with_round r.cutter r.served (map set_of r.bundles) a

      step : (t : Bool) → elem agent r.waiting ≡ t → (Mem agent r.waiting → get_or (allotted rest next).bundles (agent - 1) 0 ≡ set_of (held rest agent))
          → get_or (allotted rest next).bundles (agent - 1) 0 ≡ set_of (given agent r.served r.bundles (held rest agent))
      step true e below = below (elem_mem agent r.waiting e) ∙ sym (ap set_of (given-later agent r.served r.bundles (held rest agent) (waiting-not-served G (b ∷ agents) items agent e)))
      step false e below =
          allotted-other most r.waiting r.left (omega (arith, falls)) after next agent some e
          ∙ stored-given agent some N r.served r.bundles a.bundles (held rest agent) (served-within state) (served-distinct sound (omega arith) state)
          (all_suit-length (items_suit G) r.served r.bundles (round-suits sound (omega arith) state)) room (not-waiting-served G (b ∷ agents) items agent m e)

-- the set in each place, where sets stand in the first places and 0 in the others
pub get_d-set_of : (bundles : List (List ℕ)) (k i : ℕ) → get_or (map set_of bundles ++ zeros k) i 0 ≡ set_of (get_or bundles i [])
get_d-set_of [] k i = get_d-zeros k i
get_d-set_of (b ∷ bundles) k zero = refl
get_d-set_of (b ∷ bundles) k (suc i) = get_d-set_of bundles k i

module _ {N M : ℕ} {G : Instance} (sound : Sound N M G) (few : N ≤ most_agents) where
  abbrev rs : List Round
  rs = rounds G N (range 1 N) (range 1 M)

  -- each agent's bundle
  abbrev bundles : List (List ℕ)
  bundles = map (held rs) (range 1 N)

  length-bundles : length bundles ≡ N
  length-bundles = length-map (range 1 N) (held rs) ∙ length-range 1 N

  -- the same as a set
  abbrev held_sets : List ℕ
  held_sets = map set_of bundles

  place : (i : ℕ) → i < most_agents → get_or (allotted rs empty_allocation).bundles i 0 ≡ get_or (padded most_agents 0 held_sets) i 0
  place i room =
      ap (λ k. get_or (allotted rs empty_allocation).bundles k 0) (sym (add-sub_cancel i 1))
      ∙ ⊎_elim in_use beyond (lt-or-ge i N)
    where
      in_use : i < N → get_or (allotted rs empty_allocation).bundles (i + 1 - 1) 0 ≡ get_or (padded most_agents 0 held_sets) i 0
      in_use lt =
          let m = in-range 1 N (i + 1) (omega arith) (omega arith) in
          allotted-held sound N (range 1 N) (range 1 M) (omega (arith, length-range 1 N)) (left-all N M G) empty_allocation (i + 1) (omega arith) (omega arith) m
          ∙ sym (get_d-set_of bundles (most_agents - length held_sets) i ∙ ap set_of (sym (nth-next [] bundles i) ∙ nth-map-range (held rs) [] N m))

      beyond : N ≤ i → get_or (allotted rs empty_allocation).bundles (i + 1 - 1) 0 ≡ get_or (padded most_agents 0 held_sets) i 0
      beyond ge =
          let out = not-mem-elem (i + 1) (range 1 N) (λ m. let b = range-bounds 1 N m in omega arith) in
          allotted-other sound N (range 1 N) (range 1 M) (omega (arith, length-range 1 N)) (left-all N M G) empty_allocation (i + 1) (omega arith) out
          ∙ get_d-zeros most_agents (i + 1 - 1)
          ∙ sym (get_d-set_of bundles (most_agents - length held_sets) i ∙ ap set_of (get_or-eq_default bundles [] (omega (arith, length-bundles))))

  pub allotted-bundles : (allotted rs empty_allocation).bundles ≡ padded most_agents 0 held_sets
  allotted-bundles = ext_get_or 0 (allotted rs empty_allocation).bundles (padded most_agents 0 held_sets) same (λ i lt. place i (omega (arith, length-allotted rs empty_allocation)))
    where
      same : length (allotted rs empty_allocation).bundles ≡ length (padded most_agents 0 held_sets)
      same = length-allotted rs empty_allocation
          ∙ omega (arith, length-bundles, length-map bundles set_of, length-append held_sets (zeros (most_agents - length held_sets)), length-replicate {A = ℕ} (most_agents - length held_sets) 0)

  pub allotted-cutters-all : (allotted rs empty_allocation).cutters ≡ padded most_agents 0 (map (λ r. r.cutter) rs)
  allotted-cutters-all =
      let cutters = map (λ (r : Round). r.cutter) rs in
      allotted-cutters rs empty_allocation
      ∙ sets-eq cutters (zeros most_agents) 0 (omega (arith, length-map rs (λ r. r.cutter), rounds-few G N (range 1 N) (range 1 M)))
      ∙ ap (λ l. cutters ++ l) (drop-zeros most_agents (0 + length cutters))
      ∙ ap (λ k. cutters ++ zeros (most_agents - k)) (zero-add (length cutters))
