-- The answer for every sheet is that of a result of the code, so that what the theorems say of such a result is said of something. Assumes nothing.
use mathlib.Core.Path.{◌≡◌}
use Prim.Native.Nat.{ℕ}
use lib.Dec.{leb}
use Rattle.std.specs.Prelude.{Result}
use Rattle.sheet.specs.Limits.{agents_allowed, items_allowed}
use Rattle.sheet.specs.Answers.{map_answer}
use Rattle.sheet.specs.Refusals.{answer_of}
use Rattle.sheet.specs.Contents.{Contents, valuations_of}
use Rattle.sheet.specs.declared.refusal.Refusal.{Refusal}
use Rattle.sheet.specs.declared.refusal.Refusal.TheVariants as reason
use Rattle.sheet.proofs.Reasons.{Reasoned, reasoned-accepted, reasoned-require, reasoned-and_then, reasoned-result}
use Rattle.growth.specs.Growth.{growths}
use Rattle.shares.specs.Shares.{shares_covered, sharing, sharing_within}
use Rattle.rounds.specs.Division.{division_by_rounds, answer}
use Rattle.division.specs.Stored.{stored}
use Rattle.division.specs.declared.Division.{Division as StoredDivision}

module _ (sheet : Contents) where
  sharing-reasoned : Reasoned (sharing sheet)
  unfolding sharing
  sharing-reasoned =
      reasoned-require reason.AgentsOutside (agents_allowed sheet.agents) _
      (reasoned-require reason.ItemsOutside (items_allowed sheet.items) _
      (reasoned-require reason.SharesNotCovered (shares_covered sheet.agents (valuations_of sheet)) _
      (reasoned-accepted _)))

  module _ (allowance : ℕ) where
    sharing_within-reasoned : Reasoned (sharing_within sheet allowance)
    unfolding sharing_within
    sharing_within-reasoned =
        reasoned-and_then (sharing sheet) _ sharing-reasoned
        (λ cuttings. reasoned-require reason.AllowanceTooSmall (leb (growths sheet.agents sheet.items) allowance) _ (reasoned-accepted cuttings))

    -- of every sheet the answer is that of a result
    pub answer-has-result : (r : Result StoredDivision Refusal) × (answer_of r ≡ map_answer stored (answer sheet allowance))
    unfolding answer
    answer-has-result =
        reasoned-result stored (answer sheet allowance)
        (reasoned-and_then (sharing_within sheet allowance) _ sharing_within-reasoned (λ shares. reasoned-accepted (division_by_rounds sheet)))
