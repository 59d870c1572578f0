use Rattle.writing.proofs.Written.{◌then◌}
use Rattle.printed_lines.specs.PrintedLines.{worth_and_share}
use Rattle.printed_lines.proofs.put_amounts.Goals as goal

pub returns : goal.returns
unfolding worth_and_share
returns c =
    c.field.ensures then c.field-2.ensures then c.byte.ensures
