use mathlib.Core.Path.{◌≡◌, sym, ap₂, ◌∙◌}
use Prim.Native.Nat.{◌+◌}
use native.Mathlib.Omega.{arith}
use lib.IntN.{pos}
use mir.Syntax.{w64}
use mir.ValLaws.{to_z-of_z}
use Rattle.lists.proofs.places.Padding.{padded-range}
use Rattle.lists.proofs.places.Places.{nth-next}
use Rattle.sheet.specs.Limits.{most_agents}
use Rattle.margins.specs.Margins.{limited_margin}
use Rattle.margins.proofs.margins_of.Invariants.{margin_at}
use Rattle.margins.proofs.margins_of.Goals as goal

pub loop-i-preserved : goal.loop-i-preserved
loop-i-preserved c =
    let a = c.args in
    let l = c.loop-i in
    let read : c.margin_of.result ≡ margin_at a.terms a.worths a.shares (l.i + 1) =
    c.margin_of.ensures ∙ ap₂ (limited_margin a.terms) (sym (nth-next 0 a.worths l.i)) (sym (nth-next 0 a.shares l.i)) in
    rw (to_z-of_z w64 c.margin_of.result (record { sfits = c.margin_of.type_inv }), l.invariant) (padded-range most_agents (pos 0) (margin_at a.terms a.worths a.shares) l.i c.margin_of.result (omega arith) read)
