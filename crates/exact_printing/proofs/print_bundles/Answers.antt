use mathlib.Core.Path.{◌≡◌, ap, ◌∙◌}
use Prim.Native.Nat.{◌≤◌}
use native.Mathlib.Omega.{arith}
use lib.ListN.{length}
use Rattle.writing.proofs.Filled.{written-whole}
use Rattle.exact_printing.specs.internal.SetsText.{sets_text}
use Rattle.exact_printing.proofs.print_bundles.Goals as goal
use Rattle.exact_printing.proofs.print_bundles.Goals.{After-written}

-- the text of the bundles stands whole at the front of the local array
whole : (c : After-written) → c.written.result.now ≡ sets_text c.args.agents c.args.bundles
whole c =
    let room : length (sets_text c.args.agents c.args.bundles) ≤ length c.new-writer.result.buffer.now = omega (arith, ap (λ b. length b.now) c.new-writer.ensures.buffer) in
    c.written.ensures ∙ (written-whole c.put_exact.ensures c.new-writer.ensures.place room).front

pub returns-clause-answer : goal.returns-clause-answer
returns-clause-answer c = rw (whole (goal.at.returns-clause-answer c).After-written) at c.fill.ensures.answer

pub returns-clause-buffer : goal.returns-clause-buffer
returns-clause-buffer c = rw (whole (goal.at.returns-clause-buffer c).After-written) at c.fill.ensures.buffer
