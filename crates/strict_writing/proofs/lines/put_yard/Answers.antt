use native.Mathlib.Omega.{arith}
use Rattle.lists.proofs.places.Passing.{take_min}
use Rattle.sheet.specs.Limits.{most_items}
use Rattle.writing.proofs.Written.{◌then◌}
use Rattle.strict_text.specs.StrictText.{yard_text}
use Rattle.strict_writing.proofs.lines.put_yard.Goals as goal

pub returns : goal.returns
unfolding yard_text
returns c =
    let marks-put = rw (c.min.ensures, take_min {places = most_items} c.args.items c.args.marks (omega arith)) at c.put_marks.ensures in
    c.bytes.ensures then c.spaced_number.ensures then c.bytes-2.ensures then c.bytes-3.ensures then marks-put then c.bytes-4.ensures
