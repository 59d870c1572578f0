use Rattle.std.proofs.Common.{rules}
use mathlib.Core.Path.{ap}
use Prim.Native.Nat.{◌≤◌}
use native.Mathlib.Omega.{arith}
use mathlib.Core.List.{List}
use Prim.Native.Nat.{ℕ}
use lib.ListN.{length}
use borrow.Author.Tests.{le-leb}
use Rattle.writing.proofs.Filled.{written-whole}
use Rattle.strict_text.specs.StrictText.{strict_text}
use Rattle.strict_writing.proofs.write_sheet.Goals as goal

pub returns-clause-buffer : goal.returns-clause-buffer
returns-clause-buffer c =
    let text : List ℕ = strict_text c.args.contents in
    let lent = ap (λ b. b.now) c.new-writer.ensures.buffer in
    let room : length text ≤ length c.args.buffer.now = omega (arith, c.sheet_length-length.ensures) in
    let whole = rw lent at (written-whole c.put_sheet.ensures c.new-writer.ensures.place (rw lent room)).bytes_of in
    rw (le-leb (length text) (length c.args.buffer.now) room) (search (rules, whole))
