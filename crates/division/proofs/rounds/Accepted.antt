-- A sheet that is not refused: where its rounds start, what they hand out, and what that comes to. Assumes nothing.
use mathlib.Core.Path.{◌≡◌, refl, ap, ◌∙◌}
use mathlib.Core.List.Memᴰ.{head as here}
use mathlib.Core.List.Memᴰ.{tail as there}
use mathlib.Core.List.{List, [], ◌∷◌, map, Memᴰ as Mem}
use mathlib.Core.List.Sublistᴰ.{nil-sublist}
use mathlib.Core.List.{Sublistᴰ as Sublist}
use Prim.Native.Nat.{ℕ, zero, suc, ◌-◌, ◌^◌, ◌≤◌, ◌<◌, min}
use native.Mathlib.Omega.{arith}
use lib.ListN.{length, get_or, get_or-map}
use Rattle.lists.specs.Lists.{range, nth, padded}
use Rattle.lists.proofs.ranges.Ranges.{length-range, range-sublist}
use Rattle.lists.proofs.places.Places.{nth-padded-range}
use Rattle.sheet.specs.Limits.{most_agents, most_items, set_bits, CountsWithin}
use Rattle.sheet.specs.Sets.{items_of, set_of}
use Rattle.sheet.specs.Contents.{sheet_of}
use Rattle.sheet.proofs.sets.Sets.{items-set_of}
use Rattle.sheet.proofs.sets.Ranges.{set_of-below}
use Rattle.cut.specs.Outcome.{placed}
use Rattle.shares.specs.Stored.{blank_cut}
use Rattle.shares.specs.declared.Shares.{Shares}
use Rattle.shares.proofs.EachAgent.{cut_at, cuts-range}
use Rattle.grades.specs.Assessment.{assessment_in}
use Rattle.grades.proofs.InPlaces.{assessment_in-by-terms}
use Rattle.grading.specs.Assessed.{assessed}
use Rattle.grading.specs.declared.Assessed.{Assessed}
use Rattle.serving.specs.Serving.{agents_in}
use Rattle.serving.proofs.round.AgentsLeft.{agents_in-items}
use Rattle.terms.specs.declared.Terms.{Terms}
use Rattle.rounds.specs.Division.{instance_of_sheet, all_rounds, allocation, division_of, division_by_terms}
use Rattle.rounds.proofs.Allocation.{sound, allocation-sublist}
use Rattle.division.specs.Stored.{stored}
use Rattle.division.specs.internal.Left.{instance_from, cut_left, Ready}
use Rattle.division.specs.internal.Allocation.{empty_allocation, allotted_all}
use Rattle.division.specs.internal.Shared.{IsShared}
use Rattle.division.proofs.Answered.{items-set_of-bundle}
use Rattle.division.proofs.rounds.SameRounds.{rounds-placed}
use Rattle.division.proofs.rounds.AllRounds.{get_d-set_of, allotted-bundles, allotted-cutters-all}

-- what holds of [] and of each member holds in each place
get_d-holds : (P : List ℕ → Type 0) → P [] → (bundles : List (List ℕ)) → ((b : List ℕ) → Mem b bundles → P b) → (i : ℕ) → P (get_or bundles i [])
get_d-holds P none [] each i = none
get_d-holds P none (b ∷ bundles) each zero = each b (here refl)
get_d-holds P none (b ∷ bundles) each (suc i) = get_d-holds P none bundles (λ c mc. each c (there mc)) i

-- the set of 1 .. k, where k is small
module _ (k most : ℕ) (few : k ≤ most) (small : most ≤ most_items) where
  -- the code cuts the count to the items of a sheet
  pub up_to-is : set_of (range 1 (min k most_items)) ≡ set_of (range 1 k)
  up_to-is = let same : min k most_items ≡ k = omega arith in ap (λ i. set_of (range 1 i)) same

  pub up_to-below : set_of (range 1 k) < 2 ^ most
  up_to-below = set_of-below most (range-sublist 1 k most few)

  pub up_to-items : items_of (set_of (range 1 k)) ≡ range 1 k
  up_to-items = items-set_of (range 1 k) (range-sublist 1 k set_bits (omega arith))

module _ {n m : ℕ} {table : List (List ℕ)} {terms : Terms} {allowance : ℕ} {own : Shares} (shared : IsShared (sheet_of n m table) terms allowance own) where
  -- the counts are within the limits
  counts : CountsWithin n m
  counts = shared.known.counts

  -- all agents, as a set
  abbrev pub all_agents_set : ℕ
  all_agents_set = set_of (range 1 n)

  -- all items
  abbrev pub all_items : ℕ
  all_items = set_of (range 1 m)

  pub agents_in-all : agents_in all_agents_set ≡ range 1 n
  agents_in-all = agents_in-items all_agents_set (up_to-below n most_agents counts.few (omega arith)) ∙ up_to-items n most_agents counts.few (omega arith)

  pub items_of-all : items_of all_items ≡ range 1 m
  items_of-all = up_to-items m most_items counts.few_items (omega arith)

  -- the rounds of all agents and all items may start
  pub ready-all : Ready terms own.shares allowance all_agents_set all_items empty_allocation
  ready-all =
      record {
        small_terms = shared.allowed.small;
        small_shares = shared.known.small;
        cuttable =
            record {
              small_left = up_to-below n most_agents counts.few (omega arith);
              some_left = omega (arith, ap length agents_in-all, length-range 1 n, counts.some);
              small_set = up_to-below m most_items counts.few_items (omega arith);
            };
        enough = rw (agents_in-all, items_of-all, length-range 1 n, length-range 1 m) shared.enough;
        places = omega (arith, ap length agents_in-all, length-range 1 n, counts.few);
      }

  -- each agent's own cut is the partition of the first round, where that agent cuts
  pub own-cut : (other : List ℕ) (cutter : ℕ) → Mem cutter (range 1 n)
      → nth other own.cuts cutter ≡ placed (cut_left table cutter (agents_in all_agents_set) (items_of all_items))
  own-cut other cutter i =
      rw (shared.own_cuts, cuts-range n m table, agents_in-all, items_of-all, length-range 1 n) (nth-padded-range most_agents blank_cut other (cut_at n m table) n i)

  -- the bundles of the division
  abbrev bundles : List (List ℕ)
  bundles = allocation n m (instance_of_sheet (sheet_of n m table) terms)

  -- the same as sets, in their places
  abbrev pub placed_sets : List ℕ
  placed_sets = padded most_agents 0 (map set_of bundles)

  -- the cutters in turn, in their places
  abbrev pub placed_cutters : List ℕ
  placed_cutters = padded most_agents 0 (map (λ r. r.cutter) (all_rounds n m (instance_of_sheet (sheet_of n m table) terms)))

  bundle-sublist : (i : ℕ) → Sublist (get_or bundles i []) (range 1 m)
  bundle-sublist = get_d-holds (λ b. Sublist b (range 1 m)) (nil-sublist (range 1 m)) bundles (allocation-sublist n m terms table)

  items_at : (i : ℕ) → items_of (get_or placed_sets i 0) ≡ get_or bundles i []
  items_at i = ap items_of (get_d-set_of bundles (most_agents - length (map set_of bundles)) i) ∙ items-set_of-bundle m counts.few_items (bundle-sublist i)

  -- what the code's rounds hand out, from nothing
  pub allotted-accepted : let a = allotted_all (instance_from terms table own.shares) (agents_in all_agents_set) (items_of all_items) empty_allocation in
      (a.bundles ≡ placed_sets) × (a.cutters ≡ placed_cutters)
  allotted-accepted =
      let s = sound n m terms table shared.allowed.at_most_standard in
      rw (agents_in-all, items_of-all, length-range 1 n, rounds-placed shared.known terms) (allotted-bundles s counts.few, allotted-cutters-all s counts.few)

  -- the bundle of an agent, read from its place
  bundle-read : (i : ℕ) → nth [] (map items_of placed_sets) i ≡ nth [] bundles i
  unfolding items_of
  bundle-read i = get_or-map items_of placed_sets (i - 1) 0 ∙ items_at (i - 1)

  -- the code's division, from what the rounds hand out and what that comes to
  pub stored-accepted : {r : Assessed} {sets cutters : List ℕ} → r ≡ assessed (assessment_in (sheet_of n m table) terms own.shares sets) → sets ≡ placed_sets → cutters ≡ placed_cutters
      → record { grade = r.grade; worths = r.worths; bundles = sets; shares = own.shares; cuts = own.cuts; cutters = cutters }
      ≡ stored (division_by_terms (sheet_of n m table) terms)
  unfolding division_of
  stored-accepted told same-sets same-cutters =
      let e =
      told
      ∙ ap (λ sets. assessed (assessment_in (sheet_of n m table) terms own.shares sets)) same-sets
      ∙ ap assessed (assessment_in-by-terms shared.known terms shared.allowed.small placed_sets bundles (λ i mi. bundle-read i)) in
      rw (e, same-sets, same-cutters, shared.known.each, shared.own_cuts)
