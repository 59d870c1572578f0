-- "sheet c prints `(accepted (margins 10 0 2))`" (document 02, order 5), from the text of the sheet and its division to the printed text, by
-- computation. Assumes nothing.
use mathlib.Core.Path.{◌≡◌, refl}
use mathlib.Core.List.{List, [], ◌∷◌, flat_map}
use Rattle.std.specs.Prelude.{Some}
use Prim.Native.Nat.{ℕ}
use lib.IntN.{ℤ, pos}
use Rattle.sheet.specs.Answers.{accepted}
use Rattle.sheet.specs.Tables.{profile}
use Rattle.sheet.specs.Contents.{Contents, sheet_of}
use Rattle.text.specs.Bytes.{bytes}
use Rattle.text.specs.Decimal.{digits_in, decimal, signed}
use Rattle.tokens.specs.Lines.{on_first, lines, before_remark}
use Rattle.tokens.specs.Tokens.{extended, words, line_tokens, tokens}
use Rattle.lexing.specs.Forms as forms
use Rattle.lexing.specs.Numbers as numbers
use Rattle.sheet_lines.specs.Grammar as sheet
use Rattle.sheet_lines.specs.Kept.{table_of}
use Rattle.reading.specs.Reading.{contents_of, reading_front}
use Rattle.maximin.specs.Share.{maximin_share, maximin_partition}
use Rattle.shares.specs.Shares.{shares_covered, sharing}
use Rattle.terms.specs.Terms.{largest_odd, terms_for}
use Rattle.margins.specs.Margins.{margin}
use Rattle.grades.specs.Grade.{envy_free, proportional, maximin_fair, grade}
use Rattle.division_reading.specs.Stated.{StatedLine, Stated}
use Rattle.division_reading.specs.Grammar as division
use Rattle.stated_truth.specs.Truth.{bundles_and_cuts, of_sheet, each_in_one, line_true, figures_true}
use Rattle.stated_truth.specs.Judging.{judging_by, judging}
use Rattle.sheet_to_judgement.specs.AcceptedText.{accepted_text, longest_accepted}
use Rattle.sheet_to_judgement.specs.TextJudged.{text_judged, judgement_from}
use Rattle.sheet_to_judgement.specs.SampleTexts.{division_c, sheet_c_and_division}

-- what the sheet carries, and what the division states
abbrev contents_c : Contents
contents_c = sheet_of 3 4 (table_of ((1 ∷ 1 ∷ 1 ∷ 1 ∷ []) ∷ (4 ∷ 4 ∷ 3 ∷ 1 ∷ []) ∷ (1 ∷ 1 ∷ 1 ∷ 1 ∷ []) ∷ []))

abbrev line : List ℕ → ℕ → ℕ → List (List ℕ) → StatedLine
line bundle worth share cut = record { bundle = bundle; worth = worth; share = share; cut = cut }

abbrev stated_c : Stated
stated_c =
    record {
      grade = 4;
      lines =
          line (1 ∷ 2 ∷ []) 2 1 ((1 ∷ 2 ∷ []) ∷ (3 ∷ []) ∷ (4 ∷ []) ∷ [])
          ∷ line (3 ∷ []) 3 4 ((1 ∷ []) ∷ (2 ∷ []) ∷ (3 ∷ 4 ∷ []) ∷ [])
          ∷ line (4 ∷ []) 1 1 ((1 ∷ 2 ∷ []) ∷ (3 ∷ []) ∷ (4 ∷ []) ∷ [])
          ∷ [];
    }

abbrev margins_c : List ℤ
margins_c = pos 10 ∷ pos 0 ∷ pos 2 ∷ []

sheet-c-read : reading_front sheet_c_and_division ≡ accepted (contents_c, tokens division_c)
unfolding reading_front contents_of sheet.end_line sheet.body sheet.yard_line sheet.yard_turn sheet.head numbers.number_after numbers.number numbers.digits_after numbers.is_number forms.in_turn forms.follow on_first lines before_remark extended words line_tokens tokens flat_map
sheet-c-read = refl

division-c-read : division.division_text 3 4 (tokens division_c) ≡ Some stated_c
unfolding division.division_text division.division_head division.stated_amounts division.division_line division.bundle_in_turn division.bundle_after division.rising_items sheet.end_line numbers.number_after numbers.number numbers.digits_after numbers.is_number forms.in_turn forms.follow on_first lines before_remark extended words line_tokens tokens flat_map
division-c-read = refl

division-c-judged : judging contents_c (Some stated_c) ≡ accepted margins_c
unfolding judging_by sharing shares_covered bundles_and_cuts of_sheet each_in_one figures_true line_true grade envy_free proportional maximin_fair profile maximin_share maximin_partition terms_for largest_odd margin
division-c-judged = refl

sheet-c-judged : text_judged sheet_c_and_division ≡ accepted margins_c
unfolding text_judged
sheet-c-judged = rw (sheet-c-read, division-c-read) division-c-judged

pub sheet-c : judgement_from sheet_c_and_division longest_accepted ≡ accepted (bytes "(accepted (margins 10 0 2))\n")
unfolding judgement_from accepted_text signed digits_in decimal flat_map
sheet-c = rw sheet-c-judged
