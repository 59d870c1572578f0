-- What a text and a lent buffer are answered is what printing the sheet's division answers, behind reading; a reason that the code gives for
-- refusing the text leaves the buffer as it is. Assumes nothing.
use mathlib.Core.Path.{◌≡◌, refl, sym, ap, ◌∙◌}
use mathlib.Core.List.{List}
use Rattle.std.specs.Prelude.{Err}
use Prim.Native.Nat.{ℕ}
use lib.ListN.{length}
use Rattle.sheet.specs.Answers.{Answer, refused, accepted, map_answer, and_then, after}
use Rattle.sheet.specs.Refusals.{answer_of}
use Rattle.sheet.specs.declared.refusal.Refusal.{Refusal}
use Rattle.sheet.specs.Contents.{Contents}
use Rattle.sheet.proofs.Accepted.{and_then-assoc}
use Rattle.writing.specs.Filled.{filling, filled}
use Rattle.reading.specs.Reading.{reading}
use Rattle.rounds.specs.Division.{answer}
use Rattle.printing.specs.Printed.{printed}
use Rattle.printing.specs.Printing.{printing}
use Rattle.sheet_to_division.specs.DividedFrom.{with_division, divided_from}
use Rattle.sheet_to_division.specs.PrintedDivision.{printed_into}
use Rattle.sheet_to_division.specs.ShareOut.{share_out}

module _ (allowance room : ℕ) where
  -- of what is read
  printed_into-with_division : (read : Answer Contents)
      → printed_into room (and_then read (with_division allowance)) ≡ and_then read (λ sheet. printing sheet allowance room)
  unfolding printing
  printed_into-with_division (refused number) = refl
  printed_into-with_division (accepted sheet) =
      and_then-assoc (answer sheet allowance) (λ d. accepted (sheet, d)) (λ (s, d). filling room (printed s d))

  pub share_out-by-printing : (text : List ℕ) → share_out text allowance room ≡ and_then (reading text) (λ sheet. printing sheet allowance room)
  unfolding share_out divided_from
  share_out-by-printing text = printed_into-with_division (reading text)

-- what is made of what is read
pub printed-read : (allowance room : ℕ) (text : List ℕ) (a : Answer Contents) → a ≡ reading text → and_then a (λ sheet. printing sheet allowance room) ≡ share_out text allowance room
printed-read allowance room text a told = ap (λ read. and_then read (λ sheet. printing sheet allowance room)) told ∙ sym (share_out-by-printing allowance room text)

-- the reason is the answer, and the buffer keeps its bytes
pub reason-answered : (text : List ℕ) (allowance room : ℕ) (e : Refusal) → answer_of (Err e) ≡ reading text → answer_of (Err e) ≡ map_answer length (share_out text allowance room)
reason-answered text allowance room e told = ap (map_answer length) (printed-read allowance room text (answer_of (Err e)) told)

pub reason-kept : (text old : List ℕ) (allowance : ℕ) (e : Refusal) → answer_of (Err e) ≡ reading text → old ≡ after filled (share_out text allowance (length old)) old
reason-kept text old allowance e told = ap (λ p. after filled p old) (printed-read allowance (length old) text (answer_of (Err e)) told)

pub ruleset reasons = (reason-answered, reason-kept)
