use Rattle.printed_lines.specs.PrintedLines.{all_lines}
use Rattle.printed_division.specs.OutcomeText.{outcome_text}
use Rattle.writing.proofs.Written.{◌then◌}
use Rattle.printed_division.proofs.put_division.Goals as goal

pub returns : goal.returns
unfolding outcome_text all_lines
returns c =
    rw (← c.of-counts.ensures.agents, ← c.of-counts.ensures.items)
    (c.put_head.ensures then c.put_yards.ensures then c.put_cutters.ensures then c.bytes.ensures)
