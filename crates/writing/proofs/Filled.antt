-- A buffer that is filled from its front: what it holds, and where the text ends. Assumes nothing.
use mathlib.Core.Path.{◌≡◌, sym, ap, ◌∙◌}
use mathlib.Core.List.{List, foldl}
use Prim.Native.Nat.{ℕ, ◌+◌, ◌≤◌}
use native.Mathlib.Nat.{zero-add}
use native.Mathlib.Omega.{arith}
use lib.ListN.{length, take, drop, length-append, length-take}
use lib.Seq.{sets-eq, take_at}
use Rattle.writing.specs.declared.Writer.{Writer}
use Rattle.writing.specs.Output.{output, with_byte}
use Rattle.writing.specs.Filled.{filled}
use Rattle.writing.specs.WithText.{output_of, Writes}
use Rattle.writing.proofs.Written.{foldl-sets}

-- a text that is written whole from the front of a buffer stands at the front, and the bytes after it are the old ones
pub record WholeAtFront (old text new : List ℕ) (next : ℕ) : Type 0 where
  pub reached : next ≡ length text
  pub bytes_of : new ≡ filled text old
  pub front : take next new ≡ text

pub output-whole : (old text new : List ℕ) (next : ℕ) → output new next ≡ foldl with_byte (output old 0) text → length text ≤ length old → WholeAtFront old text new next
output-whole old text new next w enough =
    let room : 0 + length text ≤ length old = omega arith in
    let whole : output new next ≡ output (filled text old) (length text) = w ∙ foldl-sets old 0 text room ∙ rw (sets-eq text old 0 room, zero-add (length text)) in
    let reached = ap (λ p. p.next) whole in
    let bytes_of = ap (λ p. p.bytes) whole in
    record { reached = reached; bytes_of = bytes_of; front = rw bytes_of (take_at text (drop (length text) old) next (sym reached)) }

-- so does what a writer writes that began at the front
pub written-whole : {u w : Writer} {text : List ℕ} → Writes u text w → u.at ≡ 0 → length text ≤ length u.buffer.now → WholeAtFront u.buffer.now text w.buffer.now w.at
written-whole {u} {w} {text} written front enough =
    output-whole u.buffer.now text w.buffer.now w.at (ap output_of written.bytewise ∙ ap (λ at. foldl with_byte (output u.buffer.now at) text) front) enough

-- the text's length is that of a front of the buffer that holds it
pub filled-front : (text old : List ℕ) → (length text ≤ length (filled text old)) × (length text ≡ length (take (length text) (filled text old)))
filled-front text old =
    let long : length text ≤ length (filled text old) = omega (arith, length-append text (drop (length text) old)) in
    (long, omega (arith, length-take (length text) (filled text old)))
