use Rattle.writing.proofs.Written.{◌then◌}
use Rattle.strict_text.specs.StrictText.{body_text, sheet_text, strict_text}
use Rattle.strict_writing.proofs.lines.put_sheet.Goals as goal

pub returns : goal.returns
unfolding body_text sheet_text strict_text
returns c =
    c.put_head.ensures then c.put_yards.ensures then c.bytes.ensures
