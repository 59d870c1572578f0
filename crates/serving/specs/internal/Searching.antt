-- What the two searches find from where they stand, and where they may stand. Assumes nothing: these are definitions.
use Rattle.std.specs.Prelude.{◌≡◌, Bool, true, List, ◌∷◌, ◌++◌, map, ℕ, ◌+◌, ◌-◌, ◌≤◌, length, take}
use Rattle.lists.specs.Lists.{range, filter, distinct, Within}
use Rattle.lists.specs.Dictionary.{lists_over, sublists, first_that, first_best}
use Rattle.sheet.specs.Limits.{most_agents}
use Rattle.matching.specs.Matching.{tight, suited, matches}

-- the lists, each with the numbers chosen in front
abbrev pub begun : List ℕ → List (List ℕ) → List (List ℕ)
begun chosen ls = map (λ l. chosen ++ l) ls

-- where the search for the largest tight set may stand
pub record Searching (others : List ℕ) (bundles : ℕ) (chosen : List ℕ) : Type 0 where
  pub few : length chosen + length others ≤ most_agents
  pub few_bundles : bundles ≤ most_agents
  pub others_within : Within most_agents others
  pub chosen_within : Within most_agents chosen

module _ (suits : ℕ → ℕ → Bool) where
  -- the first largest of `best` and the tight sets that have the agents chosen and some of the others
  unfoldable pub largest_tight : (others : List ℕ) (bundles : ℕ) (chosen best : List ℕ) → List ℕ
  largest_tight others bundles chosen best = first_best length (best ∷ filter (tight suits (range 1 bundles)) (begun chosen (sublists others)))

  -- where the search for the first matching may stand: the bundles chosen suit the first agents, and none is chosen twice
  pub record PartialMatching (served chosen : List ℕ) : Type 0 where
    pub few : length chosen ≤ length served
    pub suits_each : suited suits (take (length chosen) served) chosen ≡ true
    pub injective : distinct chosen ≡ true

  -- the first matching that begins with the bundles chosen
  unfoldable pub first_matching : (served free chosen : List ℕ) → List ℕ
  first_matching served free chosen = first_that (matches suits served) (begun chosen (lists_over free (length served - length chosen)))
