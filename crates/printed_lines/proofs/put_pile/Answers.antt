use mathlib.Core.Path.{◌∙◌}
use Rattle.writing.proofs.Written.{◌then◌}
use Rattle.printed_lines.specs.PrintedLines.{pile_group}
use Rattle.printed_lines.proofs.put_pile.Goals as goal

pub returns : goal.returns
unfolding pile_group
returns c =
    let listed = c.as_slice.ensures.same ∙ c.items_of-bundle.ensures in
    c.bytes.ensures then rw listed at c.spaced.ensures then c.byte.ensures
