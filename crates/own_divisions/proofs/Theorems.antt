-- Document 02, order 5: "Behind its strict sheet and without its cutters line, a division the box prints meets no refusal but 10", and its margins are
-- those of the division. For every accepted text. Assumes nothing.
use mathlib.Core.Path.{◌≡◌, ap, ◌∙◌}
use mathlib.Core.List.{List, ◌++◌}
use Prim.Native.Nat.{ℕ, ◌≤◌}
use native.Mathlib.Omega.{arith}
use Rattle.sheet.specs.Answers.{accepted, and_then}
use Rattle.sheet.specs.Contents.{Contents}
use Rattle.reading.specs.Reading.{reading}
use Rattle.reading.proofs.Accepted.{accepted-counts}
use Rattle.strict_text.specs.StrictText.{strict_text}
use Rattle.strict_text.proofs.RoundTrip.{reading-within_limits}
use Rattle.writing.specs.Filled.{filling}
use Rattle.growth.proofs.Growths.{most_growths}
use Rattle.rounds.specs.Division.{division_by_rounds}
use Rattle.rounds.proofs.Answers.{answer-with-most}
use Rattle.sheet_to_judgement.specs.AcceptedText.{accepted_text, longest_accepted}
use Rattle.sheet_to_judgement.specs.TextJudged.{text_judged, judgement_from}
use Rattle.sheet_to_judgement.proofs.Longest.{accepted-judged}
use Rattle.sheet_to_judgement.proofs.TrueDivisions.{true-division-accepted}
use Rattle.own_divisions.specs.StatedBy.{stated_by}
use Rattle.own_divisions.specs.SheetAndDivision.{sheet_and_division}
use Rattle.own_divisions.proofs.AllTrue.{own-division-true, own-division-shape, own-division-margins}
use Rattle.own_divisions.proofs.PrintedText.{printed-is-stated}

module _ (text : List ℕ) (sheet : Contents) (read : reading text ≡ accepted sheet) where
  -- it is judged with the margins of the division: all that it states is true
  pub own-division-accepted : text_judged (sheet_and_division sheet) ≡ accepted (division_by_rounds sheet).margins
  own-division-accepted =
      let d = division_by_rounds sheet in
      let divided = answer-with-most sheet most_growths (omega arith) (accepted-counts text sheet read) in
      ap (λ behind. text_judged (strict_text sheet ++ behind)) (printed-is-stated sheet d)
      ∙ true-division-accepted sheet (reading-within_limits sheet text read) (stated_by sheet d)
      (own-division-shape sheet most_growths d divided) (own-division-true sheet most_growths d divided)
      ∙ ap accepted (own-division-margins sheet most_growths d divided)

  -- "meets no refusal but 10"
  pub own-division-no-refusal-but-10 : (room : ℕ) → judgement_from (sheet_and_division sheet) room ≡ filling room (accepted_text (division_by_rounds sheet).margins)
  unfolding judgement_from
  own-division-no-refusal-but-10 room = ap (λ a. and_then a (λ margins. filling room (accepted_text margins))) own-division-accepted

  -- and none with a buffer of `longest_accepted` bytes or more
  pub own-division-never-refused : (room : ℕ) → longest_accepted ≤ room → judgement_from (sheet_and_division sheet) room ≡ accepted (accepted_text (division_by_rounds sheet).margins)
  own-division-never-refused room enough = accepted-judged (sheet_and_division sheet) (division_by_rounds sheet).margins own-division-accepted room enough
