use Rattle.writing.proofs.Written.{◌then◌}
use Rattle.sheet_to_judgement.specs.internal.MarginsText.{margins_text}
use Rattle.sheet_to_judgement.proofs.accepted.put_accepted.Goals as goal

pub returns : goal.returns
unfolding margins_text
returns c =
    c.bytes.ensures then c.put_margins.ensures then c.bytes-2.ensures
