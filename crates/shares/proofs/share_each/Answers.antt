use mathlib.Core.Path.{ap, ◌∙◌}
use native.Mathlib.Omega.{arith}
use Rattle.sheet.specs.Answers.{map_answer}
use Rattle.growth.proofs.Growths.{most_growths}
use Rattle.shares.specs.Stored.{stored}
use Rattle.shares.proofs.Allowance.{sharing_within-most}
use Rattle.shares.proofs.share_each.Goals as goal

pub returns-clause-answer : goal.returns-clause-answer
returns-clause-answer c =
    let a = c.args in
    c.share_each_within.ensures.answer ∙ ap (map_answer stored) (sharing_within-most a.contents most_growths (omega arith))
