-- What a program writes for an answer is the text, or the line of the refusal; how long that line is. Assumes nothing.
use mathlib.Core.Path.{◌≡◌, refl, ap, ◌∙◌}
use mathlib.Core.List.{List}
use Prim.Native.Nat.{ℕ, ◌≤◌, ◌<◌}
use native.Mathlib.Omega.{arith}
use lib.ListN.{length, take, drop, length-append, length-take}
use lib.Seq.{take_at}
use Rattle.text.proofs.Decimal.{decimal-length}
use Rattle.sheet.specs.Answers.{Answer, refused, accepted, map_answer, after}
use Rattle.writing.specs.Filled.{filled}
use Rattle.writing.specs.declared.Writer.{Writer}
use Rattle.writing.specs.Output.{output}
use Rattle.writing.specs.WithText.{Writes}
use Rattle.writing.proofs.Written.{written-within}
use Rattle.writing.proofs.Filled.{output-whole, filled-front}
use Rattle.reply.specs.Replies.{refusal_line, longest_refusal, OneByteRefusal, replied, reply_into, Front}

-- what is within a buffer is a front of it
pub within-front : (n : ℕ) (bytes : List ℕ) → n ≤ length bytes → Front n bytes
within-front n bytes inside = (inside, omega (arith, length-take n bytes))

pub written-front : {u w : Writer} {text : List ℕ} → Writes u text w → u.at ≡ 0 → Front w.at w.buffer.now
written-front {u} {w} written front = within-front w.at w.buffer.now (written-within written front)

-- the line of a number of one byte
pub length-refusal_line : (number : ℕ) → number < 256 → length (refusal_line number) ≤ longest_refusal
length-refusal_line number small = simp length-append (omega (arith, decimal-length number 3 (omega arith) (omega arith)))

-- a text stands at the front already
text-front : (text old : List ℕ) {lent new : List ℕ} {r : ℕ} → lent ≡ filled text old → output new r ≡ reply_into (accepted (length text)) lent → take r new ≡ text
text-front text old {lent} {new} {r} holds e =
    let reached : length text ≡ r = omega (arith, ap (λ p. p.next) e, ap length holds, (filled-front text old).0) in
    rw (ap (λ p. p.bytes) e ∙ holds) (take_at text (drop (length text) old) r reached)

-- "prints the division, or one line such as `(refused 4)`": where refusals are numbers of one byte and the buffer has room for their
-- lines, the front is what an answer is to be replied
pub replied-front : (a : Answer (List ℕ)) (old : List ℕ) {lent new : List ℕ} {r : ℕ} → OneByteRefusal a → longest_refusal ≤ length old
    → lent ≡ after filled a old → output new r ≡ reply_into (map_answer length a) lent → take r new ≡ replied a
replied-front (refused number) old {lent} {new} {r} below room kept e =
    let whole : length (refusal_line number) ≤ length lent = omega (arith, ap length kept, length-refusal_line number (below.below number refl)) in
    (output-whole lent (refusal_line number) _ _ e whole).front
replied-front (accepted text) old below room kept e = text-front text old kept e
