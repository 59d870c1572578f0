-- The division of sheet c of document 01, and divisions that differ from it in one thing, judged by computation. Assumes nothing.
use mathlib.Core.Path.{◌≡◌, refl}
use mathlib.Core.List.{List, [], ◌∷◌, map}
use Rattle.std.specs.Prelude.{Option, None, Some}
use Prim.Native.Nat.{ℕ}
use lib.IntN.{ℤ, pos}
use Rattle.sheet.specs.Tables.{profile}
use Rattle.sheet.specs.Contents.{Contents, sheet_of}
use Rattle.sheet.specs.Answers.{Answer, refused, accepted}
use Rattle.maximin.specs.Share.{maximin_share, maximin_partition}
use Rattle.shares.specs.Shares.{shares_covered, sharing}
use Rattle.terms.specs.Terms.{largest_odd, terms_for}
use Rattle.margins.specs.Margins.{margin}
use Rattle.grades.specs.Grade.{envy_free, proportional, maximin_fair, grade}
use Rattle.sheet.specs.Sets.{items_of}
use Rattle.division_reading.specs.Stated.{StatedLine, Stated}
use Rattle.division_reading.specs.declared.Stated as stated
use Rattle.stated_truth.specs.Truth.{bundles_and_cuts, of_sheet, each_in_one, line_true, figures_true}
use Rattle.stated_truth.specs.Judging.{judging_by, judging}
use Rattle.stated_truth.specs.Lines.{no_line, stated_in}

abbrev sheet_c : Contents
sheet_c = sheet_of 3 4 ((1 ∷ 1 ∷ 1 ∷ 1 ∷ []) ∷ (4 ∷ 4 ∷ 3 ∷ 1 ∷ []) ∷ (1 ∷ 1 ∷ 1 ∷ 1 ∷ []) ∷ [])

-- a cut of the four items into three bundles: the first two items together, or the last two
abbrev first_together : List (List ℕ)
first_together = (1 ∷ 2 ∷ []) ∷ (3 ∷ []) ∷ (4 ∷ []) ∷ []

abbrev last_together : List (List ℕ)
last_together = (1 ∷ []) ∷ (2 ∷ []) ∷ (3 ∷ 4 ∷ []) ∷ []

abbrev line : List ℕ → ℕ → ℕ → List (List ℕ) → StatedLine
line bundle worth share cut = record { bundle = bundle; worth = worth; share = share; cut = cut }

-- the grade, and the line of agent 1; the others are as they are
abbrev divided : ℕ → StatedLine → Option Stated
divided grade first =
    Some (record {
      grade = grade;
      lines = first ∷ line (3 ∷ []) 3 4 last_together ∷ line (4 ∷ []) 1 1 first_together ∷ [];
    })

pub record Sample : Type 0 where
  pub stated : Option Stated
  pub answer : Answer (List ℤ)

-- "sheet c prints `(accepted (margins 10 0 2))`"
abbrev margins : List ℤ
margins = pos 10 ∷ pos 0 ∷ pos 2 ∷ []

unfoldable pub samples : List Sample
samples =
    record { stated = divided 4 (line (1 ∷ 2 ∷ []) 2 1 first_together); answer = accepted margins }
    -- "A cut may be any that reaches the share"
    ∷ record { stated = divided 4 (line (1 ∷ 2 ∷ []) 2 1 last_together); answer = accepted margins }
    -- nothing is read; a piece not on the sheet is named, in the division and in a cut; the cut has another count of bundles
    ∷ record { stated = None; answer = refused 11 }
    ∷ record { stated = divided 4 (line (1 ∷ 2 ∷ 5 ∷ []) 2 1 first_together); answer = refused 11 }
    ∷ record { stated = divided 4 (line (1 ∷ 2 ∷ []) 2 1 ((1 ∷ 2 ∷ []) ∷ (3 ∷ []) ∷ (4 ∷ 5 ∷ []) ∷ [])); answer = refused 11 }
    ∷ record { stated = divided 4 (line (1 ∷ 2 ∷ []) 2 1 ((1 ∷ 2 ∷ []) ∷ (3 ∷ 4 ∷ []) ∷ [])); answer = refused 11 }
    -- item 2 is in no bundle, which comes before the false worth; item 3 is in two; item 4 is in no bundle of the cut
    ∷ record { stated = divided 4 (line (1 ∷ []) 2 1 first_together); answer = refused 12 }
    ∷ record { stated = divided 4 (line (1 ∷ 2 ∷ 3 ∷ []) 3 1 first_together); answer = refused 12 }
    ∷ record { stated = divided 4 (line (1 ∷ 2 ∷ []) 2 1 ((1 ∷ []) ∷ (2 ∷ []) ∷ (3 ∷ []) ∷ [])); answer = refused 12 }
    -- a false worth, share, cut and grade
    ∷ record { stated = divided 4 (line (1 ∷ 2 ∷ []) 3 1 first_together); answer = refused 13 }
    ∷ record { stated = divided 4 (line (1 ∷ 2 ∷ []) 2 2 first_together); answer = refused 13 }
    ∷ record { stated = divided 4 (line (1 ∷ 2 ∷ []) 2 1 ((1 ∷ 2 ∷ 3 ∷ 4 ∷ []) ∷ [] ∷ [] ∷ [])); answer = refused 13 }
    ∷ record { stated = divided 3 (line (1 ∷ 2 ∷ []) 2 1 first_together); answer = refused 13 }
    ∷ []

pub samples-judged : map (λ s. judging sheet_c s.stated) samples ≡ map (λ s. s.answer) samples
unfolding samples judging_by sharing shares_covered bundles_and_cuts of_sheet each_in_one figures_true line_true grade envy_free proportional maximin_fair profile maximin_share maximin_partition terms_for largest_odd margin
samples-judged = refl

-- the same as the code has it, with a set for the bundle of agent 1
abbrev handed : ℕ → stated.Stated
handed set =
    record {
      grade = 4;
      lines = record { bundle = set; worth = 2; share = 1; cut = 3 ∷ 4 ∷ 8 ∷ 0 ∷ 0 ∷ 0 ∷ [] }
          ∷ record { bundle = 4; worth = 3; share = 4; cut = 1 ∷ 2 ∷ 12 ∷ 0 ∷ 0 ∷ 0 ∷ [] }
          ∷ record { bundle = 8; worth = 1; share = 1; cut = 3 ∷ 4 ∷ 8 ∷ 0 ∷ 0 ∷ 0 ∷ [] }
          ∷ no_line
          ∷ no_line
          ∷ no_line
          ∷ [];
    }

-- items 1 and 2; 1, 2 and 5, and 1, 2 and 16, which are not on the sheet; item 1 alone
pub sets-judged : map (λ set. judging sheet_c (stated_in 3 (Some (handed set)))) (3 ∷ 19 ∷ 32771 ∷ 1 ∷ []) ≡ accepted margins ∷ refused 11 ∷ refused 11 ∷ refused 12 ∷ []
unfolding judging_by sharing shares_covered bundles_and_cuts of_sheet each_in_one figures_true line_true grade envy_free proportional maximin_fair profile maximin_share maximin_partition terms_for largest_odd margin items_of
sets-judged = refl
