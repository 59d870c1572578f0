-- What is answered to a text by what reading answers; a reason that the code gives for refusing it leaves the buffer as it is. Assumes nothing.
use mathlib.Core.Path.{◌≡◌, ap}
use mathlib.Core.List.{List}
use Rattle.std.specs.Prelude.{Err}
use Prim.Native.Nat.{ℕ}
use lib.ListN.{length}
use Rattle.sheet.specs.Answers.{Answer, map_answer, and_then, after}
use Rattle.sheet.specs.Refusals.{answer_of}
use Rattle.sheet.specs.Contents.{Contents}
use Rattle.sheet.specs.declared.refusal.Refusal.{Refusal}
use Rattle.writing.specs.Filled.{filling, filled}
use Rattle.reading.specs.Reading.{reading}
use Rattle.strict_text.specs.StrictText.{strict_text}
use Rattle.sheet_to_strict.specs.Rewriting.{rewriting}

-- what is made of what is read
pub rewritten : (text : List ℕ) (room : ℕ) (a : Answer Contents) → a ≡ reading text → and_then a (λ sheet. filling room (strict_text sheet)) ≡ rewriting text room
unfolding rewriting
rewritten text room a told = ap (λ read. and_then read (λ sheet. filling room (strict_text sheet))) told

-- the reason is the answer, and the buffer keeps its bytes
pub reason-answered : (text : List ℕ) (room : ℕ) (e : Refusal) → answer_of (Err e) ≡ reading text → answer_of (Err e) ≡ map_answer length (rewriting text room)
reason-answered text room e told = ap (map_answer length) (rewritten text room (answer_of (Err e)) told)

pub reason-kept : (text old : List ℕ) (e : Refusal) → answer_of (Err e) ≡ reading text → old ≡ after filled (rewriting text (length old)) old
reason-kept text old e told = ap (λ p. after filled p old) (rewritten text (length old) (answer_of (Err e)) told)

pub ruleset reasons = (reason-answered, reason-kept)
