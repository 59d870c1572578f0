use Rattle.writing.proofs.Written.{◌then◌}
use Rattle.strict_text.specs.StrictText.{head_text}
use Rattle.strict_writing.proofs.lines.put_head.Goals as goal

pub returns : goal.returns
unfolding head_text
returns c =
    c.bytes.ensures then c.spaced_number.ensures then c.bytes-2.ensures then c.spaced_number-2.ensures then c.bytes-3.ensures
