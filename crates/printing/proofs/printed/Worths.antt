-- "their worth by its marks": the worth printed for an agent is that of its bundle by its own marks. Assumes nothing.
use mathlib.Core.Path.{◌≡◌, ◌∙◌}
use mathlib.Core.List.{List, [], Memᴰ as Mem}
use Prim.Native.Nat.{ℕ}
use native.Mathlib.Omega.{arith}
use Rattle.lists.specs.Lists.{range, nth}
use Rattle.lists.proofs.ranges.Ranges.{range-bounds, nth-map-range}
use Rattle.sheet.specs.Answers.{accepted}
use Rattle.sheet.specs.Valuations.{value}
use Rattle.sheet.specs.Tables.{valuation_of}
use Rattle.sheet.specs.Contents.{Contents, valuations_of}
use Rattle.sheet.proofs.valuing.Tables.{value-profile}
use Rattle.grades.specs.Grade.{value_to}
use Rattle.rounds.specs.Division.{Division, division_of, division_by_rounds, answer}
use Rattle.rounds.proofs.Answers.{answer-accepted}
use Rattle.printing.proofs.printed.Printable.{division_by_rounds-printable}

module _ (sheet : Contents) {i : ℕ} (in_use : Mem i (range 1 sheet.agents)) where
  -- of the division by the rounds
  pub division_by_rounds-worth : nth 0 (division_by_rounds sheet).worths i ≡ value (valuation_of sheet.table i) (nth [] (division_by_rounds sheet).bundles i)
  unfolding division_of
  division_by_rounds-worth =
      let of_items = (division_by_rounds-printable sheet (omega (arith, range-bounds 1 sheet.agents in_use))).of_items i in_use in
      let bundles : List (List ℕ) = (division_by_rounds sheet).bundles in
      nth-map-range (λ k. value_to (valuations_of sheet) bundles k k) 0 sheet.agents in_use ∙ value-profile sheet.agents sheet.items sheet.table in_use of_items

  -- of every division that is answered
  pub worth-by-own-marks : (allowance : ℕ) (d : Division) → answer sheet allowance ≡ accepted d → nth 0 d.worths i ≡ value (valuation_of sheet.table i) (nth [] d.bundles i)
  worth-by-own-marks allowance d divided = rw (answer-accepted sheet allowance d divided).0 division_by_rounds-worth
