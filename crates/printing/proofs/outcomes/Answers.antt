-- Which answer of the division is printed, and how. Assumes nothing.
use mathlib.Core.Path.{◌≡◌, sym, ap, ◌∙◌}
use mathlib.Core.List.{[]}
use Prim.Native.Nat.{ℕ, ◌-◌, ◌≤◌, ◌<◌}
use native.Mathlib.Omega.{arith}
use lib.ListN.{get_or, length}
use Rattle.std.specs.Prelude.{Ok, Err}
use Rattle.sheet.specs.Answers.{refused, accepted, map_answer, and_then}
use Rattle.sheet.specs.Refusals.{number, answer_of}
use Rattle.sheet.specs.declared.refusal.Refusal.{Refusal}
use Rattle.sheet.proofs.Answering.{accepted-of_ok}
use Rattle.writing.specs.Filled.{filling}
use Rattle.writing.proofs.Following.{refusal-follows}
use Rattle.sheet.specs.Limits.{value_bound, CountsWithin}
use Rattle.sheet.specs.Contents.{Contents}
use Rattle.rounds.specs.Division.{division_by_rounds, answer}
use Rattle.rounds.proofs.Answers.{answer-accepted}
use Rattle.division.specs.Stored.{stored}
use Rattle.division.specs.declared.Division.{Division as StoredDivision}
use Rattle.printing.specs.Printed.{printed}
use Rattle.printing.specs.Printing.{longest_printed, printing}
use Rattle.printed_division.specs.OutcomeText.{outcome_text}
use Rattle.printing.proofs.printed.Printable.{division_by_rounds-printable}
use Rattle.printing.proofs.printed.Longest.{division_by_rounds-length}
use Rattle.printing.proofs.outcomes.Texts.{outcome_text-divided}

-- a sheet that is divided, and the division as the code has it
pub record IsDivided (sheet : Contents) (allowance : ℕ) (d : StoredDivision) : Type 0 where
  pub limits : CountsWithin sheet.agents sheet.items
  pub by_rounds : answer sheet allowance ≡ accepted (division_by_rounds sheet)
  pub stored_is : d ≡ stored (division_by_rounds sheet)

module _ (sheet : Contents) (allowance : ℕ) where
  -- a refusal of the division is the answer
  pub refusal-printed : (room : ℕ) (e : Refusal) → answer_of (Err e) ≡ map_answer stored (answer sheet allowance) → printing sheet allowance room ≡ refused (number e)
  unfolding printing
  refusal-printed room e told = refusal-follows stored (answer sheet allowance) (λ d. filling room (printed sheet d)) e told

  pub is-divided : (d : StoredDivision) → answer_of (Ok d) ≡ map_answer stored (answer sheet allowance) → IsDivided sheet allowance d
  is-divided d told =
      let got = accepted-of_ok stored (answer sheet allowance) d told in
      let w = answer-accepted sheet allowance got.0 got.1 in
      record { limits = w.1; by_rounds = got.1 ∙ ap accepted w.0; stored_is = got.2 ∙ ap stored w.0 }

  -- the text of the division, which is printed
  pub division-printed : answer sheet allowance ≡ accepted (division_by_rounds sheet) → (room : ℕ) → filling room (printed sheet (division_by_rounds sheet)) ≡ printing sheet allowance room
  unfolding printing
  division-printed by_rounds room = sym (ap (λ o. and_then o (λ d. filling room (printed sheet d))) by_rounds)

module _ (sheet : Contents) (limits : CountsWithin sheet.agents sheet.items) where
  -- the text of what the code has is the printed text of the division
  pub text-printed : (d : StoredDivision) → d ≡ stored (division_by_rounds sheet) → outcome_text sheet.agents sheet.items d ≡ printed sheet (division_by_rounds sheet)
  text-printed d stored_is = rw stored_is (outcome_text-divided sheet (division_by_rounds sheet) limits.few_items (division_by_rounds-printable sheet limits.some))

  -- it is no longer than the longest
  pub text-short : ((i k : ℕ) → get_or (get_or sheet.table i []) k 0 < value_bound) → length (printed sheet (division_by_rounds sheet)) ≤ longest_printed
  text-short small = division_by_rounds-length sheet limits.some limits.few_items (λ i k. omega (arith, small (i - 1) (k - 1))) limits.few
