-- The tie rule: the waiting set and the matching are the first of their kind in dictionary order, also those of a round. Assumes nothing.
use mathlib.Core.Path.{◌≡◌, sym, ◌∙◌}
use mathlib.Core.Bool.{Bool}
use mathlib.Core.List.{List, Memᴰ as Mem}
use mathlib.Core.List.{Sublistᴰ as Sublist}
use Prim.Native.Nat.{ℕ, ◌≤◌, ◌<◌}
use lib.Dec.{eqb}
use lib.ListN.{length}
use borrow.Author.Tests.{eq-eqb}
use Rattle.lists.specs.Lists.{filter, Rising}
use Rattle.lists.specs.Dictionary.{lists_over, greatest, Precedes, sublists}
use Rattle.lists.proofs.dictionary.First.{first_best-reaches}
use Rattle.lists.proofs.dictionary.Listed.{in-lists_over}
use Rattle.lists.proofs.dictionary.Dictionary.{precedes-refl, range-rising, lists_over-in-order, first_that-first, pairwise-sublist, InOrder, sublists-in-order}
use Rattle.lists.proofs.members.Counting.{filter-sublist, reject-sublist}
use Rattle.matching.specs.Matching.{without, wanted, neighbours, tight, waiting_set, matches, Matched, matching, bundle_numbers, waiting_of, served_of, free_of, chosen_of}
use Rattle.matching.proofs.Waiting.{mem-tight}
use Rattle.matching.proofs.Matching.{suited-length}

module _ (suits : ℕ → ℕ → Bool) where
  -- no other largest tight set comes before the waiting set
  pub waiting_set-precedes : (agents bundles : List ℕ) → Rising agents → (zs : List ℕ) → Sublist zs agents → neighbours suits zs bundles ≤ length zs
      → length (waiting_set suits agents bundles) ≡ length zs → Precedes (waiting_set suits agents bundles) zs
  unfolding waiting_set
  waiting_set-precedes agents bundles rising zs s le same =
      first_that-first InOrder (λ l same. precedes-refl l) (λ l. eqb (length l) (greatest length sets)) sets
      (pairwise-sublist InOrder (filter-sublist (tight suits bundles) (sublists agents)) (sublists-in-order agents rising)) listed
      (eq-eqb (length zs) (greatest length sets) (sym same ∙ (first_best-reaches length sets listed).1)) same
    where
      sets : List (List ℕ)
      sets = filter (tight suits bundles) (sublists agents)

      listed : Mem zs sets
      listed = mem-tight suits agents bundles s le

  -- no other choice of bundles that matches the agents comes before the matching
  pub matching-precedes : (agents bundles chosen : List ℕ) → Rising bundles → Matched suits agents bundles chosen → Precedes (matching suits agents bundles) chosen
  unfolding matching
  matching-precedes agents bundles chosen rising s =
      let same = suited-length suits agents chosen s.suits_each in
      first_that-first Precedes precedes-refl (matches suits agents) (lists_over bundles (length agents)) (lists_over-in-order bundles (length agents) rising)
      (rw same at (in-lists_over bundles chosen s.from_bundles)) (rw (s.suits_each, s.injective))

-- a round of agents left in rising order
module _ (suits : ℕ → ℕ → Bool) (cutter : ℕ) (agents : List ℕ) where
  pub waiting_of-first : Rising agents → (zs : List ℕ) → Sublist zs (without cutter agents) → neighbours suits zs (bundle_numbers agents) ≤ length zs
      → length (waiting_of suits cutter agents) ≡ length zs → Precedes (waiting_of suits cutter agents) zs
  waiting_of-first rising =
      waiting_set-precedes suits (without cutter agents) (bundle_numbers agents)
      (pairwise-sublist (λ x y. x < y) (reject-sublist (eqb cutter) agents) rising)

  pub chosen_of-first : (chosen : List ℕ) → Matched suits (served_of suits cutter agents) (free_of suits cutter agents) chosen → Precedes (chosen_of suits cutter agents) chosen
  chosen_of-first chosen =
      matching-precedes suits (served_of suits cutter agents) (free_of suits cutter agents) chosen
      (pairwise-sublist (λ x y. x < y) (reject-sublist (wanted suits (waiting_of suits cutter agents)) (bundle_numbers agents)) (range-rising 1 (length agents)))
