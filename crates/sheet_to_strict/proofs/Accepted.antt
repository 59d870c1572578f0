-- Every accepted text is written into a buffer that is long enough for every strict text. Assumes nothing.
use mathlib.Core.Path.{◌≡◌}
use mathlib.Core.List.{List}
use Prim.Native.Nat.{ℕ, ◌≤◌}
use native.Mathlib.Omega.{arith}
use lib.ListN.{length}
use borrow.Author.Tests.{le-leb}
use Rattle.sheet.specs.Answers.{accepted}
use Rattle.sheet.specs.Contents.{Contents}
use Rattle.reading.specs.Reading.{reading}
use Rattle.strict_text.specs.StrictText.{strict_text, longest_strict}
use Rattle.strict_text.proofs.TextLength.{length-strict_text}
use Rattle.strict_text.proofs.RoundTrip.{reading-within_limits}
use Rattle.sheet_to_strict.specs.Rewriting.{rewriting}

-- every accepted text gets its strict text: it is never refused with a buffer of `longest_strict` bytes
pub accepted-written : (s : List ℕ) (room : ℕ) (sheet : Contents) → reading s ≡ accepted sheet → longest_strict ≤ room → rewriting s room ≡ accepted (strict_text sheet)
unfolding rewriting
accepted-written s room sheet read enough =
    let short = length-strict_text (reading-within_limits sheet s read) in
    rw (read, le-leb (length (strict_text sheet)) room (omega arith))
