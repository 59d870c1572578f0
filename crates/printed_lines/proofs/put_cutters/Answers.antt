use Rattle.writing.proofs.Written.{◌then◌}
use Rattle.printed_lines.specs.PrintedLines.{cutters_line}
use Rattle.printed_lines.proofs.BeforeZero.{before_zero-front}
use Rattle.printed_lines.proofs.put_cutters.Goals as goal

pub returns : goal.returns
unfolding cutters_line
returns c =
    let listed = rw (c.rounds_of-rounds.ensures, before_zero-front c.args.cutters) at c.spaced.ensures in
    c.bytes.ensures then listed then c.bytes-2.ensures
