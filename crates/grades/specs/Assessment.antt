-- What an allocation comes to: the worths of the bundles, the margins and the grade. Assumes nothing: these are definitions.
use Rattle.std.specs.Prelude.{List, map, ℕ, min, ℤ}
use Rattle.sheet.specs.Limits.{most_agents, most_items, greatest_sum}
use Rattle.sheet.specs.Sets.{items_of}
use Rattle.sheet.specs.Tables.{profile}
use Rattle.sheet.specs.Contents.{Contents}
use Rattle.terms.specs.declared.Terms.{Terms}
use Rattle.margins.specs.Margins.{margins_of, limited_terms}
use Rattle.grades.specs.Grade.{own_values, grade}

-- the worth of each agent's bundle (pile), its margin, and the grade
pub record Assessment : Type 0 where
  pub worths : List ℕ
  pub margins : List ℤ
  pub grade : ℕ

-- with these margins
abbrev pub assessment_with : (n : ℕ) (valuations : List (List ℕ)) (shares : List ℕ) (bundles : List (List ℕ)) (margins : List ℤ) → Assessment
assessment_with n valuations shares bundles margins =
    record { worths = own_values n valuations bundles; margins = margins; grade = grade n valuations shares margins bundles }

-- of n agents, by the terms, their valuations and their shares
abbrev pub assessment : (n : ℕ) (terms : Terms) (valuations : List (List ℕ)) (shares : List ℕ) (bundles : List (List ℕ)) → Assessment
assessment n terms valuations shares bundles = assessment_with n valuations shares bundles (margins_of n terms (own_values n valuations bundles) shares)

-- of any allocation of the items of a sheet in its places, by those in use: counts, terms and the shares of the margins are cut to their
-- limits, and items above those of the sheet are worth nothing; the bundles are 16-bit sets
unfoldable pub assessment_in : (sheet : Contents) (terms : Terms) (shares sets : List ℕ) → Assessment
assessment_in sheet terms shares sets =
    let n = min sheet.agents most_agents in
    let valuations = profile n (min sheet.items most_items) sheet.table in
    let bundles = map items_of sets in
    assessment_with n valuations shares bundles (margins_of n (limited_terms terms) (own_values n valuations bundles) (map (λ share. min share greatest_sum) shares))
