use mathlib.Core.Path.{◌≡◌}
use Prim.Native.Nat.{ℕ, ◌*◌, ◌%◌, ◌^◌, ◌≤◌, ◌<◌}
use native.Mathlib.Nat.{pow-le-pow_right}
use native.Mathlib.Omega.{arith}
use Rattle.sheet.specs.Limits.{most_items}
use Rattle.exact_levels.proofs.kept.Staged.{few-sets, staged-none, can-keep-item, staged-next}
use Rattle.exact_levels.proofs.keeping.keep_most.Goals as goal

pub start-kept-requires : goal.start-kept-requires
start-kept-requires c = let a = c.args in few-sets a.valuation a.levels.now a.before a.items a.sets c.requires

pub loop-i-init : goal.loop-i-init
loop-i-init c = let a = c.args in staged-none a.valuation a.levels.now a.before a.items a.sets c.requires c.start-kept.result c.start-kept.ensures

-- the bit of item i + 1 does not wrap
shifted : (i : ℕ) → i < most_items → 1 * 2 ^ i % 18446744073709551616 ≡ 2 ^ i
shifted i low = let upto : i ≤ most_items = omega arith in omega (arith, pow-le-pow_right {n = 2} (omega arith) upto)

pub keep_item-requires : goal.keep_item-requires
keep_item-requires c =
    let a = c.args in
    let l = c.loop-i in
    rw (shifted l.i (omega (arith, c.requires.few))) (can-keep-item a.valuation a.levels.now a.before a.items a.sets c.requires l.kept l.i c.loop-i-test.true l.invariant)

pub loop-i-preserved : goal.loop-i-preserved
loop-i-preserved c =
    let a = c.args in
    let l = c.loop-i in
    staged-next a.valuation a.levels.now a.before a.items a.sets c.requires l.kept l.i c.loop-i-test.true l.invariant c.keep_item.new.kept
    (rw (shifted l.i (omega (arith, c.requires.few))) at c.keep_item.ensures)
