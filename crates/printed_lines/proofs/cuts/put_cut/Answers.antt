use Rattle.writing.proofs.Written.{◌then◌}
use Rattle.printed_lines.specs.PrintedLines.{cut_group}
use Rattle.printed_lines.proofs.cuts.put_cut.Goals as goal

pub returns : goal.returns
unfolding cut_group
returns c =
    c.bytes.ensures then c.put_bundles.ensures then c.byte.ensures
