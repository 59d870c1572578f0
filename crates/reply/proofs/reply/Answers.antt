use Rattle.std.proofs.Common.{rules}
use Rattle.reply.proofs.Replied.{written-front}
use Rattle.reply.proofs.reply.Goals as goal

pub returns-in-Err-clause-within : goal.returns-in-Err-clause-within
returns-in-Err-clause-within c = search (rules, written-front c.put_refusal.ensures c.new-writer.ensures.place)
