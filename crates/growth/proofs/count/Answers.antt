use mathlib.Core.Path.{◌≡◌, sym, ap, subst, ◌∙◌}
use Prim.Native.Nat.{ℕ, min}
use native.Mathlib.Numerals.{add-one}
use native.Mathlib.Omega.{arith}
use lib.ListN.{get_or}
use Rattle.sheet.specs.Limits.{most_agents, most_items}
use Rattle.growth.specs.Growth.{growths}
use Rattle.growth.specs.Counts.{count_row}
use Rattle.growth.specs.internal.Rows.{next_row, NextFits}
use Rattle.growth.proofs.Growths.{growths-counted}
use Rattle.growth.proofs.Table.{get_d-count_row, next_fits, next_row-count_row}
use Rattle.growth.proofs.count.Goals as goal

-- the number of bundles, cut to the limits
abbrev most : ℕ → ℕ
most bundles = min bundles most_agents

pub next_row-row-requires : goal.next_row-row-requires
next_row-row-requires c =
    subst NextFits (sym c.loop-laid.invariant) (next_fits (most c.args.bundles) c.loop-laid._laid (omega arith) (omega (arith, c.min-laid-end.ensures)))

pub loop-laid-preserved : goal.loop-laid-preserved
loop-laid-preserved c =
    let n = most c.args.bundles in
    c.next_row-row.ensures
    ∙ ap next_row c.loop-laid.invariant
    ∙ next_row-count_row n c.loop-laid._laid (omega arith)
    ∙ ap (count_row n) (sym (add-one c.loop-laid._laid))

pub returns : goal.returns
returns c =
    let n = most c.args.bundles in
    let all : c.loop-laid._laid ≡ min c.args.items most_items = omega (arith, c.min-laid-end.ensures) in
    ap (λ row. get_or row 0 0) c.loop-laid.invariant
    ∙ get_d-count_row n c.loop-laid._laid 0 (omega arith)
    ∙ sym (growths-counted n c.loop-laid._laid)
    ∙ ap (growths n) all
