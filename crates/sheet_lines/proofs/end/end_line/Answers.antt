use Rattle.sheet_lines.proofs.Places.{end-anything}
use Rattle.sheet_lines.proofs.end.end_line.Goals as goal

pub returns : goal.returns
returns c = rw end-anything c.follow.ensures
