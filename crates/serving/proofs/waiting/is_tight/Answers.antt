use mathlib.Core.Path.{sym, ap, ap₂, ◌∙◌}
use Prim.Native.Nat.{◌+◌}
use lib.Dec.{leb}
use lib.ListN.{length}
use Rattle.lists.specs.Lists.{range}
use Rattle.lists.proofs.ranges.Ranges.{length-range}
use Rattle.matching.proofs.Tight.{tight-free}
use Rattle.serving.specs.Serving.{suits_of}
use Rattle.serving.proofs.waiting.is_tight.Goals as goal

pub returns : goal.returns
returns c =
    let a = c.args in
    ap₂ (λ n free. leb n (free + length a.agents.now)) (sym (length-range 1 a.bundles)) (c.len.ensures.count ∙ ap length c.free.ensures)
    ∙ tight-free (suits_of a.suiting) (range 1 a.bundles) a.agents.now
