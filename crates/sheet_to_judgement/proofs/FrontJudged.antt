-- What is answered to a text whose sheet is refused, and to one whose sheet is accepted; a reason that the code gives for refusing the sheet
-- leaves the buffer as it is. Assumes nothing.
use mathlib.Core.Path.{◌≡◌, sym, ap}
use mathlib.Core.List.{List}
use Rattle.std.specs.Prelude.{Err}
use Prim.Native.Nat.{ℕ}
use lib.ListN.{length}
use Rattle.sheet.specs.Answers.{refused, accepted, map_answer, after}
use Rattle.sheet.specs.Refusals.{number, answer_of}
use Rattle.sheet.specs.Contents.{Contents}
use Rattle.sheet.specs.declared.refusal.Refusal.{Refusal}
use Rattle.sheet.proofs.Answering.{refused-of_err}
use Rattle.tokens.specs.Tokens.{Token}
use Rattle.reading.specs.Reading.{reading_front}
use Rattle.reading.specs.Stored.{stored_front}
use Rattle.writing.specs.Filled.{filled}
use Rattle.division_reading.specs.Grammar.{division_text}
use Rattle.sheet_to_judgement.specs.TextJudged.{text_judged, judgement_from}
use Rattle.sheet_to_judgement.specs.internal.Printing.{printing_judgement}

refused-judged : (text : List ℕ) (room number : ℕ) → reading_front text ≡ refused number → judgement_from text room ≡ refused number
unfolding judgement_from text_judged
refused-judged text room number e = rw e

pub accepted-judged : (text : List ℕ) (room : ℕ) (sheet : Contents) (behind : List Token) → reading_front text ≡ accepted (sheet, behind)
    → judgement_from text room ≡ printing_judgement sheet (division_text sheet.agents sheet.items behind) room
unfolding judgement_from text_judged printing_judgement
accepted-judged text room sheet behind read = rw read

-- what a reason is answered with
reason-judged : (text : List ℕ) (room : ℕ) (e : Refusal) → answer_of (Err e) ≡ map_answer (stored_front text) (reading_front text) → judgement_from text room ≡ refused (number e)
reason-judged text room e told = refused-judged text room (number e) (refused-of_err (stored_front text) (reading_front text) e told)

-- the reason is the answer, and the buffer keeps its bytes
pub reason-answered : (text : List ℕ) (room : ℕ) (e : Refusal) → answer_of (Err e) ≡ map_answer (stored_front text) (reading_front text)
    → answer_of (Err e) ≡ map_answer length (judgement_from text room)
reason-answered text room e told = sym (ap (map_answer length) (reason-judged text room e told))

pub reason-kept : (text old : List ℕ) (e : Refusal) → answer_of (Err e) ≡ map_answer (stored_front text) (reading_front text)
    → old ≡ after filled (judgement_from text (length old)) old
reason-kept text old e told = sym (ap (λ p. after filled p old) (reason-judged text (length old) e told))

pub ruleset reasons = (reason-answered, reason-kept)
