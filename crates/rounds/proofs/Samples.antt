-- Refusals 4 and 5, the table of starred sheets and the sheet of "Two thirds used for every N", by computation; then sheets on either side of
-- order 7's refusal 14. Assumes nothing.
use mathlib.Core.Path.{◌≡◌, refl, sym, ap, subst}
use mathlib.Core.Logic.{◌⊎◌, inl, inr}
use mathlib.Core.List.{List, [], ◌∷◌, map}
use Prim.Native.Nat.{◌≤◌, ◌<◌}
use native.Mathlib.Omega.{arith}
use lib.IntN.{pos, negsuc}
use Rattle.sheet.specs.Limits.{CountsWithin}
use Rattle.sheet.specs.Sets.{items_of}
use Rattle.sheet.specs.Valuations.{values_of, value}
use Rattle.maximin.specs.Share.{maximin_share, maximin_partition}
use Rattle.cut.specs.Outcome.{Found, found, cutting}
use Rattle.terms.specs.Terms.{largest_odd, terms_for}
use Rattle.margins.specs.Margins.{margin}
use Rattle.sheet.specs.Tables.{valuation_of, profile}
use Rattle.matching.specs.Matching.{waiting_set, matching}
use Rattle.rounds.specs.Round.{round, rounds, held}
use Rattle.grades.specs.Grade.{envy_free, proportional, maximin_fair, grade}
use Rattle.rounds.specs.Division.{Division, division_of, division_by_terms, division_by_rounds, answer}
use Rattle.rounds.specs.SampleSheets.{answer_by_definitions, answer_stated, sheet_a, starred, samples, two_thirds_sheet, two_thirds}
use Rattle.rounds.proofs.Answers.{answer-within-limits, answer-refused-14}
use Rattle.sheet.specs.Answers.{Answer, refused, accepted}
use Rattle.sheet.specs.Contents.{Contents, sheet_of}
use Rattle.sheet.specs.ThreePlayers.{players}
use Rattle.growth.specs.Growth.{growths}
use Rattle.growth.proofs.Growths.{twelve-into-three}
use Rattle.shares.specs.Shares.{share_of, shares_covered, sharing, standard_allowance, sharing_within}

-- 0 and 7 yards give 4, 0 and 13 pieces give 5, and 4 is tried first
pub refusals-hold : answer (sheet_of 0 3 []) standard_allowance ∷ answer (sheet_of 7 3 []) standard_allowance ∷ answer (sheet_of 2 0 []) standard_allowance ∷ answer (sheet_of 2 13 []) standard_allowance ∷ answer (sheet_of 7 13 []) standard_allowance ∷ []
    ≡ map refused (4 ∷ 4 ∷ 5 ∷ 5 ∷ 4 ∷ [])
unfolding answer sharing_within sharing
refusals-hold = refl

-- "The starred sheets are proved as a table, by one theorem covering its rows"
pub starred-hold : map answer_by_definitions starred ≡ map answer_stated starred
unfolding starred answer division_of sharing_within growths sharing shares_covered profile terms_for largest_odd round rounds held waiting_set matching maximin_share maximin_partition margin grade envy_free proportional maximin_fair cutting found values_of items_of
starred-hold = refl

-- "With yard 2 of case c at 9 9 6 3, a pile of 6 would pass at 2/3 and fails at 6/8": its share is 9, and the margin of the pile {3} is below
-- zero by the terms for three yards, and zero by two thirds
pub six-of-nine-falls-short :
    let share = share_of two_thirds_sheet.sheet 2 in
    let worth = value (valuation_of two_thirds_sheet.sheet.table 2) (3 ∷ []) in
    (share ≡ 9) × (worth ≡ 6) × (margin (terms_for 3) worth share ≡ negsuc 5) × (margin two_thirds worth share ≡ pos 0)
unfolding terms_for largest_odd maximin_share margin
six-of-nine-falls-short = (refl, refl, refl, refl)

-- so yard 2 waits, and its pile is {1 2}
pub six-of-nine-not-handed-out : answer two_thirds_sheet.sheet standard_allowance ≡ accepted two_thirds_sheet.division
unfolding answer division_of sharing_within growths sharing shares_covered profile terms_for largest_odd round rounds held waiting_set matching maximin_share maximin_partition margin grade envy_free proportional maximin_fair
six-of-nine-not-handed-out = refl

-- by two thirds it would be served at once, with the pile of 6
pub six-of-nine-handed-out-at-two-thirds : (division_by_terms two_thirds_sheet.sheet two_thirds).bundles ≡ (1 ∷ 2 ∷ []) ∷ (3 ∷ []) ∷ (4 ∷ []) ∷ []
unfolding division_of profile round rounds held waiting_set matching maximin_share maximin_partition
six-of-nine-handed-out-at-two-thirds = refl

-- sheet a has four growth layouts: an allowance of three gives 14, one of four its division; and 4 and 5 are tried before 14
pub allowances-hold : answer sheet_a.sheet 3 ∷ answer sheet_a.sheet 4 ∷ answer (sheet_of 7 3 []) 0 ∷ answer (sheet_of 2 13 []) 0 ∷ []
    ≡ refused 14 ∷ accepted sheet_a.division ∷ refused 4 ∷ refused 5 ∷ []
unfolding answer division_of sharing_within growths sharing shares_covered profile terms_for largest_odd round rounds held waiting_set matching maximin_share maximin_partition margin grade envy_free proportional maximin_fair
allowances-hold = refl

-- the three players of document 000, section 2
abbrev players_sheet : Contents
players_sheet = sheet_of 3 12 players

players-within : CountsWithin 3 12
players-within = record { some = omega arith; few = omega arith; some_items = omega arith; few_items = omega arith }

-- "Twelve pieces have 88,574 growth layouts for three piles": one less is not enough for the three players of document 000, section 2
pub three-players-refused : answer players_sheet 88573 ≡ refused 14
three-players-refused = (answer-refused-14 players_sheet 88573 players-within).1 (subst (λ count. 88573 < count) (sym twelve-into-three) (omega arith))

pub three-players-divided : answer players_sheet 88574 ≡ accepted (division_by_rounds players_sheet)
three-players-divided = answer-within-limits players_sheet 88574 players-within (subst (λ count. count ≤ 88574) (sym twelve-into-three) (omega arith))

-- the divisions among several answers
abbrev divisions_of : List (Answer Division ⊎ Answer Found) → List (Answer Division)
divisions_of [] = []
divisions_of (inl d ∷ rows) = d ∷ divisions_of rows
divisions_of (inr c ∷ rows) = divisions_of rows

pub samples-hold : map (λ s. answer s.sheet standard_allowance) samples ≡ map (λ s. accepted s.division) samples
unfolding starred
samples-hold = ap divisions_of starred-hold
