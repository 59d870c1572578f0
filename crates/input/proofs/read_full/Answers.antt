use Rattle.std.proofs.Common.{rules, ◌-◌, length, sym, subst}
use Rattle.std.specs.Io.KnownBytes.{Consumes}
use Rattle.std.proofs.KnownBytes.{Consumes-trans}
use Rattle.input.proofs.Filled.{front-grows-by-piece}
use Rattle.input.proofs.read_full.Goals as goal

pub loop-done-preserved : goal.loop-done-preserved
loop-done-preserved g c =
    let at = c.loop-done.done in
    let held = c.loop-done.invariant in
    let got = c.in_ok-got.ensures in
    let front = front-grows-by-piece at (length c.loop-done.buffer - at) c.in_ok-got.got c.loop-done.buffer c.read.new.buf (search rules) got.bound.0 in
    (search rules, search rules, subst (Consumes _ _) (sym front) (Consumes-trans _ _ _ _ _ held.2 got.bytes.0))
