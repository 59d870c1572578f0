use mathlib.Core.Path.{◌≡◌, ap, ◌∙◌}
use Prim.Native.Nat.{◌-◌, ◌≤◌}
use native.Mathlib.Omega.{arith}
use lib.ListN.{length}
use Rattle.writing.proofs.Filled.{written-whole}
use Rattle.sheet_to_judgement.specs.AcceptedText.{longest_accepted}
use Rattle.sheet_to_judgement.specs.internal.MarginsText.{margins_text}
use Rattle.sheet.specs.Limits.{most_agents}
use Rattle.sheet_to_judgement.proofs.Texts.{length-margins_text}
use Rattle.sheet_to_judgement.proofs.Fit.{margins-fit}
use Rattle.sheet_to_judgement.proofs.accepted.print_margins.Goals as goal
use Rattle.sheet_to_judgement.proofs.accepted.print_margins.Goals.{After-written}

module _ (c : After-written) where
  -- the text of the margins is no longer than the longest
  text-short : length (margins_text c.args.agents c.args.margins) ≤ longest_accepted
  text-short = length-margins_text c.args.agents c.args.margins c.requires (λ i. margins-fit most_agents c.args.margins _ c.well_formed.1.0 (i - 1))

  -- it stands whole at the front of the local array
  whole : c.written.result.now ≡ margins_text c.args.agents c.args.margins
  whole =
      let room : length (margins_text c.args.agents c.args.margins) ≤ length c.new-writer.result.buffer.now = omega (arith, text-short, ap (λ b. length b.now) c.new-writer.ensures.buffer) in
      c.written.ensures ∙ (written-whole c.put_accepted.ensures c.new-writer.ensures.place room).front

pub returns-clause-answer : goal.returns-clause-answer
returns-clause-answer c = rw (whole (goal.at.returns-clause-answer c).After-written) at c.fill.ensures.answer

pub returns-clause-buffer : goal.returns-clause-buffer
returns-clause-buffer c = rw (whole (goal.at.returns-clause-buffer c).After-written) at c.fill.ensures.buffer
