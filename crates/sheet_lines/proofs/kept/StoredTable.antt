-- The table that is stored is that of the marks that were read; where all marks are allowed, none of them is altered. Assumes nothing.
use mathlib.Core.Path.{◌≡◌, refl, ap, ap₂}
use mathlib.Core.List.{List, [], ◌∷◌, map, map-map}
use mathlib.Core.Bool.{Bool, true, false, cond, and-eq-true_iff}
use Rattle.std.specs.Prelude.{None, Some}
use Prim.Native.Nat.{ℕ, ◌+◌}
use native.Mathlib.Nat.{mod-eq_of_lt}
use native.Mathlib.Omega.{arith}
use borrow.Author.Tests.{leb-true}
use Rattle.lists.specs.Lists.{padded, all}
use Rattle.sheet.specs.Limits.{most_agents, most_items, greatest_mark, blank_row}
use Rattle.sheet_lines.specs.Marks.{allowed, allowed_row}
use Rattle.sheet_lines.specs.Kept.{table_of, reduced, kept_table}

-- each row in its places
pub rows-padded : (rows : List (List ℕ)) → kept_table rows ≡ padded most_agents blank_row (map (λ row. padded most_items 0 (map reduced row)) rows)
rows-padded rows = ap (padded most_agents blank_row) (map-map (padded most_items 0) (map reduced) rows)

map-reduced : (ms : List ℕ) → allowed_row greatest_mark ms ≡ true → map reduced ms ≡ ms
map-reduced [] f = refl
map-reduced (m ∷ ms) f =
    let both = (and-eq-true_iff (allowed greatest_mark m) (allowed_row greatest_mark ms)).0 f in
    let small = leb-true m greatest_mark both.0 in
    ap₂ ◌∷◌ (mod-eq_of_lt {n = m} {m = greatest_mark + 1} (omega arith)) (map-reduced ms both.1)

rows-reduced : (rows : List (List ℕ)) → all (allowed_row greatest_mark) rows ≡ true → map (map reduced) rows ≡ rows
rows-reduced [] f = refl
rows-reduced (row ∷ rows) f =
    let both = (and-eq-true_iff (allowed_row greatest_mark row) (all (allowed_row greatest_mark) rows)).0 f in
    ap₂ ◌∷◌ (map-reduced row both.0) (rows-reduced rows both.1)

pub allowed-kept : (rows : List (List ℕ)) → all (allowed_row greatest_mark) rows ≡ true → kept_table rows ≡ table_of rows
allowed-kept rows f = ap table_of (rows-reduced rows f)

-- so what is kept tells the table of the marks as they are, where all are allowed, and else that there is none
pub allowed-table : (rows : List (List ℕ)) → cond (all (allowed_row greatest_mark) rows) (Some (kept_table rows)) None ≡ cond (all (allowed_row greatest_mark) rows) (Some (table_of rows)) None
allowed-table rows = go (all (allowed_row greatest_mark) rows) refl
  where
    go : (small : Bool) → all (allowed_row greatest_mark) rows ≡ small → cond small (Some (kept_table rows)) None ≡ cond small (Some (table_of rows)) None
    go true f = ap Some (allowed-kept rows f)
    go false f = refl
