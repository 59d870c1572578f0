use mathlib.Core.Path.{ap}
use native.Mathlib.Omega.{arith}
use lib.ListN.{length}
use Rattle.writing.proofs.Filled.{written-whole}
use Rattle.strict_writing.proofs.Longest.{length-of-any}
use Rattle.strict_writing.proofs.sheet_length.Goals as goal

pub returns : goal.returns
returns c =
    let fields = c.well_formed.0.1.1 in
    let short = length-of-any c.args.contents _ (omega (arith, fields.0.1)) (omega (arith, fields.1.0.1)) fields.1.1.0 in
    (written-whole c.put_sheet.ensures c.new-writer.ensures.place (omega (arith, short, ap (λ b. length b.now) c.new-writer.ensures.buffer))).reached
