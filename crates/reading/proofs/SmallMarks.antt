-- No mark of a table that is read is above the greatest, whatever the place. Assumes nothing.
use mathlib.Core.Path.{◌≡◌, ap}
use mathlib.Core.Bool.{true, and-eq-true_iff}
use mathlib.Core.List.{List, [], ◌∷◌, ◌++◌, map}
use Prim.Native.Nat.{ℕ, zero, suc, ◌-◌, ◌≤◌}
use native.Mathlib.Omega.{arith}
use lib.ListN.{length, get_or, replicate}
use borrow.Author.Tests.{leb-true}
use Rattle.lists.specs.Lists.{zeros, padded, all}
use Rattle.lists.proofs.places.Zeros.{get_d-zeros}
use Rattle.sheet.specs.Limits.{most_agents, most_items, greatest_mark, blank_row}
use Rattle.sheet.specs.Valuations.{item_value}
use Rattle.sheet.specs.Tables.{valuation_of}
use Rattle.sheet_lines.specs.Marks.{allowed, allowed_row}
use Rattle.sheet_lines.specs.Kept.{table_of}

-- no mark of a row is above the greatest
Small : List ℕ → Type 0
Small row = (k : ℕ) → get_or row k 0 ≤ greatest_mark

row_small : (row : List ℕ) (n : ℕ) → allowed_row greatest_mark row ≡ true → Small (row ++ zeros n)
unfolding Small
row_small [] n each k = omega (arith, get_d-zeros n k)
row_small (mark ∷ row) n each zero = leb-true mark greatest_mark ((and-eq-true_iff (allowed greatest_mark mark) (allowed_row greatest_mark row)).0 each).0
row_small (mark ∷ row) n each (suc k) = row_small row n ((and-eq-true_iff (allowed greatest_mark mark) (allowed_row greatest_mark row)).0 each).1 k

blank-small : (n i : ℕ) → Small (get_or (replicate n blank_row) i [])
unfolding Small
blank-small zero i k = omega arith
blank-small (suc n) zero k = omega (arith, get_d-zeros most_items k)
blank-small (suc n) (suc i) k = blank-small n i k

rows-small : (rows : List (List ℕ)) (n i : ℕ) → all (allowed_row greatest_mark) rows ≡ true → Small (get_or (map (padded most_items 0) rows ++ replicate n blank_row) i [])
rows-small [] n i each = blank-small n i
rows-small (row ∷ rows) n zero each = row_small row (most_items - length row) ((and-eq-true_iff (allowed_row greatest_mark row) (all (allowed_row greatest_mark) rows)).0 each).0
rows-small (row ∷ rows) n (suc i) each = rows-small rows n i ((and-eq-true_iff (allowed_row greatest_mark row) (all (allowed_row greatest_mark) rows)).0 each).1

-- the marks of a table that is read
pub table-small : (rows table : List (List ℕ)) → table ≡ table_of rows → all (allowed_row greatest_mark) rows ≡ true → (i k : ℕ) → item_value (valuation_of table i) k ≤ greatest_mark
unfolding Small
table-small rows table full each i k =
    omega (arith, ap (λ t. item_value (valuation_of t i) k) full, rows-small rows (most_agents - length (map (padded most_items 0) rows)) (i - 1) each (k - 1))
