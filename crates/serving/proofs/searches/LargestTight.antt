-- One step of the search for the largest tight set: a branch that it leaves, its end, and its two branches. Assumes nothing.
use mathlib.Core.Path.{◌≡◌, refl, ap, ◌∙◌}
use mathlib.Core.Bool.{Bool, true, false}
use mathlib.Core.Logic.{⊎_elim}
use mathlib.Core.List.Memᴰ
use mathlib.Core.List.Memᴰ.{cases_cons}
use mathlib.Core.List.Memᴰ.{head as here}
use mathlib.Core.List.{List, [], ◌∷◌, ◌++◌, map, map-append, append-nil, Memᴰ as Mem}
use Prim.Native.Nat.{ℕ, ◌+◌, ◌≤◌, ◌<◌}
use native.Mathlib.Omega.{arith}
use lib.ListN.{length, length-append}
use Rattle.lists.specs.Lists.{range, filter}
use Rattle.lists.specs.Dictionary.{sublists, first_best}
use Rattle.lists.proofs.members.Counting.{filter-append, filter-mem, length-sublist}
use Rattle.lists.proofs.ranges.Sublists.{sublists-mem}
use Rattle.sheet.specs.Limits.{most_agents}
use Rattle.matching.specs.Matching.{tight, waiting_set}
use Rattle.serving.specs.internal.Searching.{begun, Searching, largest_tight}
use Rattle.lists.proofs.places.Passing.{within-append}
use Rattle.lists.proofs.places.Prefixes.{prefix-cons, prefix-none}
use Rattle.lists.proofs.dictionary.First.{first_best-reaches}
use Rattle.lists.proofs.dictionary.FirstBest.{first_best-one, first_best-better, first_best-head, first_best-append, longest-from-empty}

module _ (suits : ℕ → ℕ → Bool) (bundles : ℕ) where
  abbrev is_tight : List ℕ → Bool
  is_tight = tight suits (range 1 bundles)

  -- each set that is tried has the agents chosen and at most the others
  tried-few : (others chosen l : List ℕ) → Mem l (filter is_tight (begun chosen (sublists others))) → length l ≤ length chosen + length others
  tried-few others chosen l m =
      let (s, n, e) = Memᴰ.of_map (λ l. chosen ++ l) (sublists others) (filter-mem is_tight (begun chosen (sublists others)) m).0 in
      rw (← e) (omega (arith, length-append chosen s, length-sublist (sublists-mem others n)))

  -- no set that has at most the others besides is larger than the best
  pub largest_tight-short : (others chosen best : List ℕ) → length chosen + length others ≤ length best → largest_tight suits others bundles chosen best ≡ best
  unfolding largest_tight
  largest_tight-short others chosen best le =
      first_best-head length best (filter is_tight (begun chosen (sublists others))) (λ l m. omega (arith, tried-few others chosen l m))

  -- the set found is the best, or has at most the others besides
  pub largest_tight-few : (most : ℕ) (others chosen best : List ℕ) → length best ≤ most → length chosen + length others ≤ most
      → length (largest_tight suits others bundles chosen best) ≤ most
  unfolding largest_tight
  largest_tight-few most others chosen best few le =
      let sets = filter is_tight (begun chosen (sublists others)) in
      let best-or-set = (first_best-reaches length (best ∷ sets) (here refl)).0 in
      ⊎_elim (λ e. omega (arith, ap length e)) (λ m. omega (arith, tried-few others chosen (first_best length (best ∷ sets)) m)) (cases_cons best-or-set)

  -- all others are tried: the set chosen is larger than the best, and tight or not
  pub largest_tight-new : (chosen best : List ℕ) → length best < length chosen → is_tight chosen ≡ true → largest_tight suits [] bundles chosen best ≡ chosen
  unfolding largest_tight
  largest_tight-new chosen best lt passes =
      let only : filter is_tight (begun chosen (sublists [])) ≡ chosen ∷ [] = rw (append-nil chosen, passes) in
      ap (λ ls. first_best length (best ∷ ls)) only ∙ first_best-better length best chosen [] lt ∙ first_best-one length chosen

  pub largest_tight-old : (chosen best : List ℕ) → is_tight chosen ≡ false → largest_tight suits [] bundles chosen best ≡ best
  unfolding largest_tight
  largest_tight-old chosen best fails =
      let none : filter is_tight (begun chosen (sublists [])) ≡ [] = rw (append-nil chosen, fails) in
      ap (λ ls. first_best length (best ∷ ls)) none ∙ first_best-one length best

  -- the sets with the next agent, and then those without
  pub largest_tight-next : (agent : ℕ) (rest chosen best : List ℕ)
      → largest_tight suits (agent ∷ rest) bundles chosen best
      ≡ largest_tight suits rest bundles chosen (largest_tight suits rest bundles (chosen ++ (agent ∷ [])) best)
  unfolding largest_tight
  largest_tight-next agent rest chosen best =
      let with-agent = map (λ l. agent ∷ l) (sublists rest) in
      ap (λ ls. first_best length (best ∷ filter is_tight ls))
      (map-append (λ l. chosen ++ l) with-agent (sublists rest) ∙ ap (λ ls. ls ++ begun chosen (sublists rest)) (prefix-cons chosen agent (sublists rest)))
      ∙ ap (λ ls. first_best length (best ∷ ls)) (filter-append is_tight (begun (chosen ++ (agent ∷ [])) (sublists rest)) (begun chosen (sublists rest)))
      ∙ first_best-append length best (filter is_tight (begun (chosen ++ (agent ∷ [])) (sublists rest))) (filter is_tight (begun chosen (sublists rest)))

  -- from no agent and no set the search ends at the waiting set
  pub largest_tight-waiting_set : (others : List ℕ) → largest_tight suits others bundles [] [] ≡ waiting_set suits others (range 1 bundles)
  unfolding largest_tight waiting_set
  largest_tight-waiting_set others =
      ap (λ ls. first_best length ([] ∷ filter is_tight ls)) (prefix-none (sublists others))
      ∙ longest-from-empty (filter is_tight (sublists others))

-- the next agent is chosen, or left out
module _ (agent : ℕ) (rest : List ℕ) (bundles : ℕ) (chosen : List ℕ) (at : Searching (agent ∷ rest) bundles chosen) where
  pub searching-with : Searching rest bundles (chosen ++ (agent ∷ []))
  searching-with =
      let within = at.others_within in
      record {
        few = omega (arith, at.few, length-append chosen (agent ∷ []));
        few_bundles = at.few_bundles;
        others_within = within.2;
        chosen_within = within-append most_agents chosen (agent ∷ []) at.chosen_within (within.0, within.1, tt);
      }

  pub searching-without : Searching rest bundles chosen
  searching-without = record { few = omega (arith, at.few); few_bundles = at.few_bundles; others_within = at.others_within.2; chosen_within = at.chosen_within }
