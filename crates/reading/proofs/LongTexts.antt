-- A text that is longer than a text may be reads as its first bytes do, one more than a text may have: a program need not read further.
-- Assumes nothing.
use mathlib.Core.Path.{◌≡◌, ap}
use mathlib.Core.Bool.{Bool}
use mathlib.Core.Logic.{⊎_elim}
use mathlib.Core.List.{List}
use Prim.Native.Nat.{ℕ, ◌+◌, ◌<◌}
use Rattle.lists.proofs.Cases.{lt-or-ge}
use native.Mathlib.Omega.{arith}
use lib.ListN.{length, take, length-take}
use lib.Seq.{take_all}
use borrow.Author.Tests.{lt-leb}
use Rattle.sheet.specs.Limits.{MarkLimits, mark_limits, longest_text}
use Rattle.tokens.specs.Tokens.{Token}
use Rattle.lexing.specs.Forms.{ended}
use Rattle.sheet_lines.specs.Grammar.{anything}
use Rattle.reading.specs.Reading.{sheet_alone, sheet_at_front, reading, reading_front}

-- the bytes that a program reads at the most
abbrev front : List ℕ → List ℕ
front text = take (longest_text + 1) text

sheet_at_front-front : (limits : MarkLimits) (may_follow : List Token → Bool) (text : List ℕ) → sheet_at_front limits may_follow (front text) ≡ sheet_at_front limits may_follow text
sheet_at_front-front limits may_follow text =
    ⊎_elim
    (λ (many : longest_text + 1 < length text).
    let all : length (front text) ≡ longest_text + 1 = simp length-take (omega arith) in
    rw (lt-leb (length (front text)) longest_text (omega arith), lt-leb (length text) longest_text (omega arith)))
    (λ few. ap (sheet_at_front limits may_follow) (take_all (longest_text + 1) text few))
    (lt-or-ge (longest_text + 1) (length text))

-- of a sheet alone, and of one with another text behind it
pub reading-front : (text : List ℕ) → reading (take (longest_text + 1) text) ≡ reading text
unfolding reading
reading-front text = ap sheet_alone (sheet_at_front-front mark_limits ended text)

pub reading_front-front : (text : List ℕ) → reading_front (take (longest_text + 1) text) ≡ reading_front text
unfolding reading_front
reading_front-front text = sheet_at_front-front mark_limits anything text
