use Rattle.std.proofs.Common.{rules}
use Rattle.text.specs.Decimal.{signed}
use Rattle.writing.proofs.Writer.signed.Goals as goal
use Rattle.writing.proofs.Writer.signed.Goals.{then-n-lt0, else-n-lt0}

pub returns : goal.returns
unfolding signed
returns c =
    elim c.if-n-lt0.branch [
      | then-n-lt0 w ↦ search rules
      | else-n-lt0 w ↦ search rules
    ]
