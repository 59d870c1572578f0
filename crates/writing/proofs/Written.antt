-- A text behind a text is one text; one byte where there is room and where there is none; a text that has room is a run of stores; a writer
-- leaves the buffer as long as it was, and what it writes from the front ends within it. Assumes nothing.
use mathlib.Core.Path.{◌≡◌, refl, sym, ap, subst, ◌∙◌}
use mathlib.Core.Bool.{Bool, true, false}
use mathlib.Core.List.{List, [], ◌∷◌, ◌++◌, foldl, foldl-append}
use Prim.Native.Nat.{ℕ, suc, ◌+◌, ◌≤◌, ◌<◌}
use native.Mathlib.Nat.{add-zero}
use native.Mathlib.Numerals.{add-one}
use native.Mathlib.Omega.{arith}
use lib.Dec.{ltb}
use lib.ListN.{length, set, length-set}
use lib.Seq.{sets}
use borrow.Author.Tests.{lt-ltb, le-ltb, ltb-true}
use Rattle.writing.specs.declared.Writer.{Writer}
use Rattle.writing.specs.Output.{Output, output, with_byte}
use Rattle.writing.specs.WithText.{output_of, with_output, with_text, Writes}

infixl 30 ◌then◌
-- nothing is written
pub nothing : {w : Writer} → Writes w [] w
nothing = record { bytewise = refl }

-- a text is written behind a text
pub ◌then◌ : {u v w : Writer} {s t : List ℕ} → Writes u s v → Writes v t w → Writes u (s ++ t) w
◌then◌ {u} {v} {w} {s} {t} first second =
    record { bytewise = second.bytewise ∙ ap (λ x. with_text x t) first.bytewise ∙ ap (λ o. with_output u o) (sym (foldl-append with_byte (output_of u) s t)) }

-- a byte where there is room, and where there is none
pub byte-stored : (w : Writer) (byte : ℕ) → w.at < length w.buffer.now → Writes w (byte ∷ []) (with_output w (output (set w.buffer.now w.at byte) (w.at + 1)))
byte-stored w byte room = record { bytewise = rw (lt-ltb w.at (length w.buffer.now) room) }

pub byte-left-out : (w : Writer) (byte : ℕ) → length w.buffer.now ≤ w.at → Writes w (byte ∷ []) w
byte-left-out w byte full = record { bytewise = rw (le-ltb w.at (length w.buffer.now) full) }

-- a text that has room is a run of stores
pub foldl-sets : (old : List ℕ) (at : ℕ) (text : List ℕ) → at + length text ≤ length old → foldl with_byte (output old at) text ≡ output (sets old at text) (at + length text)
foldl-sets old at [] room = ap (output old) (sym (add-zero at))
foldl-sets old at (byte ∷ text) room =
    rw (lt-ltb at (length old) (omega arith), add-one at)
    (foldl-sets (set old at byte) (suc at) text (rw (length-set old at byte) (omega arith)) ∙ ap (output (sets (set old at byte) (suc at) text)) (omega arith))

-- a text leaves the buffer as long as it was
length-with_byte : (p : Output) (byte : ℕ) → length (with_byte p byte).bytes ≡ length p.bytes
length-with_byte p byte = step (ltb p.next (length p.bytes)) refl
  where
    step : (b : Bool) → ltb p.next (length p.bytes) ≡ b → length (with_byte p byte).bytes ≡ length p.bytes
    step true e = rw e (length-set p.bytes p.next byte)
    step false e = rw e refl

pub length-foldl-with_byte : (p : Output) (text : List ℕ) → length (foldl with_byte p text).bytes ≡ length p.bytes
length-foldl-with_byte p [] = refl
length-foldl-with_byte p (byte ∷ text) = length-foldl-with_byte (with_byte p byte) text ∙ length-with_byte p byte

-- a text that is written from the front of a buffer ends within it
next-with_byte : (p : Output) (byte : ℕ) → p.next ≤ length p.bytes → (with_byte p byte).next ≤ length (with_byte p byte).bytes
next-with_byte p byte inside = step (ltb p.next (length p.bytes)) refl
  where
    step : (b : Bool) → ltb p.next (length p.bytes) ≡ b → (with_byte p byte).next ≤ length (with_byte p byte).bytes
    step true e = rw e (omega (arith, ltb-true p.next (length p.bytes) e, length-set p.bytes p.next byte))
    step false e = rw e inside

next-foldl-with_byte : (p : Output) (text : List ℕ) → p.next ≤ length p.bytes → (foldl with_byte p text).next ≤ length (foldl with_byte p text).bytes
next-foldl-with_byte p [] inside = inside
next-foldl-with_byte p (byte ∷ text) inside = next-foldl-with_byte (with_byte p byte) text (next-with_byte p byte inside)

pub written-within : {u w : Writer} {text : List ℕ} → Writes u text w → u.at ≡ 0 → w.at ≤ length w.buffer.now
written-within {u} {w} {text} written front =
    let bytewise = ap output_of written.bytewise ∙ ap (λ at. foldl with_byte (output u.buffer.now at) text) front in
    subst (λ p. p.next ≤ length p.bytes) (sym bytewise) (next-foldl-with_byte (output u.buffer.now 0) text (omega arith))
