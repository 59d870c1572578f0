use mathlib.Core.Path.{◌≡◌, sym, ap, ◌∙◌}
use Prim.Native.Nat.{◌^◌, ◌<◌}
use native.Mathlib.Omega.{arith}
use Rattle.std.proofs.Common.{rules, sum}
use Rattle.lists.specs.Sums.{total}
use Rattle.sheet.specs.Valuations.{values_of}
use Rattle.sheet.proofs.listing.Entries.{total-sum}
use Rattle.sheet.proofs.valuing.value_of.Goals as goal

pub sum-requires-clause-fits : goal.sum-requires-clause-fits
sum-requires-clause-fits c =
    let told = c.as_slice.ensures.same ∙ c.values_of.ensures.values in
    let fits : sum c.as_slice.result.now < 2 ^ 64 = omega (arith, ap total told, total-sum c.as_slice.result.now, c.values_of.ensures.bound) in
    search rules

pub returns : goal.returns
unfolding values_of
returns c =
    let told = c.as_slice.ensures.same ∙ c.values_of.ensures.values in
    let summed : c.sum.result ≡ sum c.as_slice.result.now = search rules in
    let is = summed ∙ sym (total-sum c.as_slice.result.now) ∙ ap total told in
    (is, omega (arith, is, c.values_of.ensures.bound))
