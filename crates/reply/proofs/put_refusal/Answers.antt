use Rattle.writing.proofs.Written.{◌then◌}
use Rattle.reply.proofs.put_refusal.Goals as goal

pub returns : goal.returns
returns c = rw c.from.ensures at c.field.ensures then c.bytes.ensures
