use Rattle.writing.proofs.Written.{◌then◌}
use Rattle.printed_lines.specs.PrintedLines.{printed_yard}
use Rattle.printed_lines.proofs.put_yard.Goals as goal

pub returns : goal.returns
unfolding printed_yard
returns c =
    c.field.ensures then c.put_pile.ensures then c.put_amounts.ensures then rw (c.of.ensures.agents, c.of.ensures.items) at c.put_cut.ensures then c.bytes.ensures
