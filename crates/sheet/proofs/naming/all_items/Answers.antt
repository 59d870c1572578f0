use mathlib.Core.Path.{◌≡◌, ap, ◌∙◌}
use Prim.Native.Nat.{◌*◌, ◌-◌, ◌^◌, ◌%◌, ◌≤◌, ◌<◌}
use native.Mathlib.Nat.{mod-eq_of_lt, pow-le-pow_right}
use native.Mathlib.Omega.{arith}
use Rattle.lists.specs.Lists.{range}
use Rattle.sheet.specs.Limits.{most_items, set_bits}
use Rattle.sheet.specs.Sets.{set_of}
use Rattle.sheet.proofs.sets.Ranges.{set_of-up_to}
use Rattle.sheet.proofs.naming.all_items.Goals as goal

pub returns : goal.returns
returns c =
    let n = c.min.result in
    let few : n ≤ most_items = omega (arith, c.min.ensures) in
    let power : 2 ^ n ≤ 2 ^ most_items = pow-le-pow_right {n = 2} (omega arith) few in
    let small : 1 * 2 ^ n < 2 ^ set_bits = omega arith in
    let all : 1 * 2 ^ n % 2 ^ set_bits - 1 ≡ set_of (range 1 n) = omega (arith, set_of-up_to n, mod-eq_of_lt small) in
    all ∙ ap (λ k. set_of (range 1 k)) c.min.ensures
