use Rattle.writing.proofs.Written.{◌then◌}
use Rattle.exact_printing.specs.internal.SetsText.{sets_text}
use Rattle.exact_printing.proofs.put_exact.Goals as goal

pub returns : goal.returns
unfolding sets_text
returns c =
    c.bytes.ensures then c.put_bundles.ensures then c.bytes-2.ensures
