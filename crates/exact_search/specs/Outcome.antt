-- How the code's answer stands for each case: the reason to refuse, none, or the bundles, with the places that are not in use.
-- Assumes nothing: these are definitions.
use Rattle.std.specs.Prelude.{◌≡◌, Bool, true, false, List, map, ℕ, Option, Some, None, Result}
use Rattle.lists.specs.Lists.{padded}
use Rattle.sheet.specs.Limits.{most_agents}
use Rattle.sheet.specs.Sets.{set_of}
use Rattle.sheet.specs.Answers.{map_answer}
use Rattle.sheet.specs.Refusals.{answer_of}
use Rattle.sheet.specs.Contents.{Contents}
use Rattle.sheet.specs.declared.refusal.Refusal.{Refusal}
use Rattle.exact_division.specs.Search.{searching, MayShow}

-- none has no bundle (pile); else the bundles stand as sets, one for each agent (yard), with 0 after the last
abbrev pub stored : List (List ℕ) → Bool → Option (List ℕ)
stored bundles false = None
stored bundles true = Some (padded most_agents 0 (map set_of bundles))

-- what is promised of the answer r to a sheet
pub record Searched (sheet : Contents) (r : Result (Option (List ℕ)) Refusal) : Type 0 where
  -- the bundles that are shown where there is an exact division: which of several is left free
  pub bundles : List (List ℕ)
  pub may_show : MayShow sheet bundles
  -- with these bundles, the whole answer
  pub answered : answer_of r ≡ map_answer (stored bundles) (searching sheet)
