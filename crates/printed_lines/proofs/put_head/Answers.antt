use Rattle.writing.proofs.Written.{◌then◌}
use Rattle.printed_lines.specs.PrintedLines.{head_line}
use Rattle.printed_lines.proofs.put_head.Goals as goal

pub returns : goal.returns
unfolding head_line
returns c =
    c.field.ensures then c.field-2.ensures then rw c.from.ensures at c.field-3.ensures then c.bytes.ensures
