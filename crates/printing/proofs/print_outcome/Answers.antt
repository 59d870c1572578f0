use mathlib.Core.Path.{◌≡◌, ap, ◌∙◌}
use Prim.Native.Nat.{min, ◌≤◌}
use native.Mathlib.Omega.{arith}
use lib.ListN.{length}
use Rattle.sheet.specs.Limits.{most_agents, most_items}
use Rattle.writing.proofs.Filled.{written-whole}
use Rattle.rounds.specs.Division.{division_by_rounds}
use Rattle.printing.specs.Printed.{printed}
use Rattle.printing.proofs.outcomes.Marks.{table-small}
use Rattle.printing.proofs.outcomes.Answers.{text-printed, text-short}
use Rattle.printing.proofs.print_outcome.Goals as goal
use Rattle.printing.proofs.print_outcome.Goals.{After-written}

-- the text of the division stands whole at the front of the local array
whole : (c : After-written) → c.written.result.now ≡ printed c.args.contents (division_by_rounds c.args.contents)
whole c =
    let sheet = c.args.contents in
    let limits = c.requires.0 in
    let few : min sheet.agents most_agents ≡ sheet.agents = omega (arith, limits.few) in
    let few_items : min sheet.items most_items ≡ sheet.items = omega (arith, limits.few_items) in
    let short = text-short sheet limits (table-small most_agents most_items sheet.table _ c.well_formed.0.1.1.1.1.0) in
    let room : length (printed sheet (division_by_rounds sheet)) ≤ length c.new-writer.result.buffer.now = omega (arith, short, ap (λ b. length b.now) c.new-writer.ensures.buffer) in
    c.written.ensures ∙ (written-whole (rw (few, few_items, text-printed sheet limits c.args.division c.requires.1) at c.put_division.ensures) c.new-writer.ensures.place room).front

pub returns-clause-answer : goal.returns-clause-answer
returns-clause-answer c = rw (whole (goal.at.returns-clause-answer c).After-written) at c.fill.ensures.answer

pub returns-clause-buffer : goal.returns-clause-buffer
returns-clause-buffer c = rw (whole (goal.at.returns-clause-buffer c).After-written) at c.fill.ensures.buffer
