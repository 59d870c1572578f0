use mathlib.Core.Path.{◌≡◌, ◌∙◌}
use Prim.Native.Nat.{◌+◌, ◌*◌, ◌≤◌}
use native.Mathlib.Omega.{arith}
use Rattle.exact_levels.proofs.kept.Blocks.{next-block, block_within, block-done, block_same}
use Rattle.exact_levels.proofs.keeping.keep_item.Goals.{In-loop-from}
use Rattle.exact_levels.proofs.keeping.keep_item.Goals as goal

-- the block of this round is one of the sets
ends : (c : In-loop-from) → c.loop-from.from + c.args.bit + c.args.bit ≤ c.args.sets
ends c =
    let l = c.loop-from in
    block_within l.invariant.block c.args.bit l.from l.invariant.at c.requires.blocks c.args.sets c.requires.all c.loop-from-test.true

pub keep_in_block-requires : goal.keep_in_block-requires
keep_in_block-requires c =
    let l = c.loop-from in
    record {
      places = l.invariant.places ∙ c.requires.places;
      within = omega (arith, ends (goal.at.keep_in_block-requires c).In-loop-from, c.requires.within);
      small = λ set le. omega (arith, l.invariant.same set le, c.requires.small set (omega arith));
    }

pub loop-from-preserved : goal.loop-from-preserved
loop-from-preserved c =
    let a = c.args in
    let l = c.loop-from in
    let b = c.keep_in_block in
    record {
      block = l.invariant.block + 1;
      at = next-block l.invariant.block a.bit l.from l.invariant.at;
      within = omega (arith, ends (goal.at.loop-from-preserved c).In-loop-from);
      places = b.ensures.places ∙ l.invariant.places;
      done = block-done l.invariant.block a.bit l.from l.invariant.at a.kept.now l.kept b.new.kept a.mark l.invariant.done l.invariant.same b.ensures;
      same = block_same l.invariant.block a.bit l.from l.invariant.at a.kept.now l.kept b.new.kept a.mark l.invariant.done l.invariant.same b.ensures;
    }

pub returns-2 : goal.returns-2
returns-2 c =
    let a = c.args in
    let l = c.loop-from in
    let b = c.keep_in_block in
    let done = block-done l.invariant.block a.bit l.from l.invariant.at a.kept.now l.kept b.new.kept a.mark l.invariant.done l.invariant.same b.ensures in
    let same = block_same l.invariant.block a.bit l.from l.invariant.at a.kept.now l.kept b.new.kept a.mark l.invariant.done l.invariant.same b.ensures in
    let end : l.from + 2 * a.bit ≡ a.sets = omega (arith, ends (goal.at.returns-2 c).In-loop-from) in
    record {
      places = b.ensures.places ∙ l.invariant.places;
      each = λ set lt. done set (omega arith);
      behind = λ set le. same set (omega arith);
      light = omega (arith, c.ranges.mark);
    }
