use Rattle.std.proofs.Common.{rules}
use mathlib.Core.Path.{ap}
use lib.ListN.{length}
use borrow.Author.Tests.{le-leb}
use Rattle.writing.proofs.Filled.{written-whole}
use Rattle.writing.proofs.fill.Goals as goal

pub returns-clause-buffer : goal.returns-clause-buffer
returns-clause-buffer c =
    let room = c.if-buffer-text.false in
    let lent = ap (λ b. b.now) c.new-writer.ensures.buffer in
    let whole = rw lent at (written-whole c.bytes.ensures c.new-writer.ensures.place (rw lent room)).bytes_of in
    rw (le-leb (length c.args.text.now) (length c.args.buffer.now) room) (search (rules, whole))
