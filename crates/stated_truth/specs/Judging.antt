-- What judging a division of a sheet answers: the number of a refusal, or the margins (document 02, order 5). Assumes nothing: these are
-- definitions.
use Rattle.std.specs.Prelude.{◌≡◌, List, ℤ, Option, Some}
use Rattle.sheet.specs.Limits.{CountsWithin}
use Rattle.sheet.specs.Contents.{Contents}
use Rattle.sheet.specs.Answers.{Answer, accepted, require, require_some, and_then}
use Rattle.shares.specs.Shares.{sharing}
use Rattle.terms.specs.Terms.{terms_of}
use Rattle.terms.specs.declared.Terms.{Terms}
use Rattle.grades.specs.Scale.{margins_by_terms}
use Rattle.division_reading.specs.Stated.{Stated}
use Rattle.stated_truth.specs.Truth.{bundles_of, bundles_and_cuts, of_sheet, each_in_one, figures_true, AllTrue}

module _ (sheet : Contents) (terms : Terms) where
  -- the answer on what is read, where the sheet is not refused
  -- 11: "with other counts of yards, pieces or a cut's piles, or naming a piece not on the sheet"
  -- 12: "for a piece that is in no pile or in two, of the division or of a cut"
  -- 13: "for a false worth, share, cut or grade"
  -- else "for each yard .. its margin"
  abbrev pub judging_read : Stated → Answer (List ℤ)
  judging_read d =
      require 11 (bundles_and_cuts (of_sheet sheet.agents sheet.items) d)
      (require 12 (bundles_and_cuts (each_in_one sheet.items) d)
      (require 13 (figures_true sheet terms d)
      (accepted (margins_by_terms sheet terms (bundles_of d)))))

  -- "in this order after 9 and before 10", of what a text states, or none where there is nothing: 11 "for a text off the layout"
  unfoldable pub judging_by : Option Stated → Answer (List ℤ)
  judging_by stated = and_then (sharing sheet) (λ shares. require_some 11 stated judging_read)

  -- what is accepted: a division of a sheet within the limits that was read, all that it states is true, and the margins are those of its bundles
  pub record TrueDivision (stated : Option Stated) (margins : List ℤ) : Type 0 where
    pub counts : CountsWithin sheet.agents sheet.items
    pub division : Stated
    pub was_read : stated ≡ Some division
    pub all_true : AllTrue sheet terms division
    pub margins_given : margins ≡ margins_by_terms sheet terms (bundles_of division)

-- by the terms of the sheet, which are those of document 01
abbrev pub judging : Contents → Option Stated → Answer (List ℤ)
judging sheet stated = judging_by sheet (terms_of sheet) stated
