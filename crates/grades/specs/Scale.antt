-- What an allocation of the items of a sheet comes to, and the tests of the grades one after the other. Assumes nothing: these are definitions.
use Rattle.std.specs.Prelude.{Bool, true, List, [], ◌∷◌, ℕ, ℤ}
use Rattle.lists.specs.Lists.{nth}
use Rattle.sheet.specs.Contents.{Contents, valuations_of}
use Rattle.shares.specs.Shares.{shares_of}
use Rattle.terms.specs.Terms.{terms_of}
use Rattle.terms.specs.declared.Terms.{Terms}
use Rattle.margins.specs.Margins.{none_negative}
use Rattle.grades.specs.Grade.{envy_free, proportional, maximin_fair}
use Rattle.grades.specs.Assessment.{Assessment, assessment}

module _ (sheet : Contents) where
  module _ (terms : Terms) (bundles : List (List ℕ)) where
    -- what the allocation comes to, by the marks of the sheet and the terms
    abbrev pub assessment_by_terms : Assessment
    assessment_by_terms = assessment sheet.agents terms (valuations_of sheet) (shares_of sheet) bundles

    -- the margin of each agent
    abbrev pub margins_by_terms : List ℤ
    margins_by_terms = assessment_by_terms.margins

    -- the grade
    abbrev pub grade_by_terms : ℕ
    grade_by_terms = assessment_by_terms.grade

    -- "the tests for" 1, 2, 3 and 4: no envy, even, the whole share, no margin below zero
    abbrev pub tests : List Bool
    tests =
        envy_free sheet.agents (valuations_of sheet) bundles
        ∷ proportional sheet.agents (valuations_of sheet) bundles
        ∷ maximin_fair sheet.agents (valuations_of sheet) (shares_of sheet) bundles
        ∷ none_negative sheet.agents margins_by_terms
        ∷ []

    -- whether the allocation passes the test for grade g, from 1 on; 5 asks for nothing
    abbrev pub passes_by_terms : ℕ → Bool
    passes_by_terms g = nth true tests g

  -- the same by the terms of the sheet
  module _ (bundles : List (List ℕ)) where
    abbrev pub passes : ℕ → Bool
    passes = passes_by_terms (terms_of sheet) bundles

    abbrev pub grade_by_sheet : ℕ
    grade_by_sheet = grade_by_terms (terms_of sheet) bundles
