use mathlib.Core.Path.{◌≡◌, sym, ap, subst, ◌∙◌}
use mathlib.Core.List.{[]}
use Prim.Native.Nat.{ℕ, ◌+◌, ◌-◌, ◌≤◌, min}
use native.Mathlib.Numerals.{add-one}
use native.Mathlib.Omega.{arith}
use lib.ListN.{get_or, set}
use Rattle.lists.specs.Lists.{zeros}
use Rattle.lists.proofs.places.Padding.{padded-range}
use Rattle.sheet.specs.Limits.{most_agents, most_items}
use Rattle.growth.specs.Counts.{used_places, count_row, count_table}
use Rattle.growth.specs.internal.Rows.{next_row, NextFits}
use Rattle.growth.proofs.Table.{get_d-filled, next_fits, next_row-count_row}
use Rattle.growth.proofs.counts_for.Invariants.{filled_to}
use Rattle.growth.proofs.counts_for.Goals as goal
use Rattle.growth.proofs.counts_for.Goals.{At-loop-left}

-- one row more
filled_to-next : (n rows : ℕ) → rows ≤ most_items → set (filled_to n rows) rows (count_row n rows) ≡ filled_to n (rows + 1)
filled_to-next n rows few = padded-range (most_items + 1) (zeros used_places) (λ c. count_row n (c - 1)) rows (count_row n rows) (omega arith) (ap (count_row n) (omega arith))

abbrev most : At-loop-left → ℕ
most l = l.min-most.result

few_bundles : (l : At-loop-left) → most l ≤ most_agents
few_bundles l = omega (arith, l.min-most.ensures)

-- the row that the next one is worked out from
last_row : (l : At-loop-left) → get_or l.loop-left.counts l.loop-left.left [] ≡ count_row (most l) l.loop-left.left
last_row l = ap (λ rows. get_or rows l.loop-left.left []) l.loop-left.invariant ∙ get_d-filled (most_items + 1) (zeros used_places) [] (count_row (most l)) l.loop-left.left l.loop-left.left (omega arith)

pub next_row-requires : goal.next_row-requires
next_row-requires c =
    let l = (goal.at.next_row-requires c).At-loop-left in
    subst NextFits (sym (last_row l)) (next_fits (most l) c.loop-left.left (few_bundles l) (omega (arith, c.min-last.ensures)))

pub loop-left-preserved : goal.loop-left-preserved
loop-left-preserved c =
    let l = (goal.at.loop-left-preserved c).At-loop-left in
    let left = c.loop-left.left in
    let row : c.next_row.result ≡ count_row (most l) (left + 1) =
    c.next_row.ensures ∙ ap next_row (last_row l) ∙ next_row-count_row (most l) left (few_bundles l) ∙ ap (count_row (most l)) (sym (add-one left)) in
    ap (λ rows. set rows (left + 1) c.next_row.result) c.loop-left.invariant
    ∙ ap (set (filled_to (most l) (left + 1)) (left + 1)) row
    ∙ filled_to-next (most l) (left + 1) (omega (arith, c.min-last.ensures))

pub returns : goal.returns
unfolding count_table
returns c =
    let all : c.loop-left.left ≡ c.min-last.result = omega arith in
    c.loop-left.invariant
    ∙ ap (λ rows. filled_to c.min-most.result (rows + 1)) (all ∙ c.min-last.ensures)
    ∙ ap (λ n. filled_to n (min c.args.items most_items + 1)) c.min-most.ensures
