use Rattle.std.proofs.Common.{arith}
use Rattle.sheet.specs.Limits.{set_bits}
use Rattle.lists.proofs.places.Padding.{store-padded-taken}
use Rattle.sheet.proofs.listing.CopyList.push.Goals as goal

pub invariant_of-self : goal.invariant_of-self
invariant_of-self g c = (
  omega (arith, c.if-self-lt-SET_BITS.true),
  store-padded-taken set_bits _ c.self.inside.len c.self.inside.places c.args.entry (omega (arith, c.if-self-lt-SET_BITS.true)) c.self.invariant.1,
)
