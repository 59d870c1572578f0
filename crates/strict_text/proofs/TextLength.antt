-- How long the lines of a strict text are, and the whole: of a table within the limits at most `longest_strict` bytes. Assumes nothing.
use mathlib.Core.Path.{◌≡◌}
use mathlib.Core.List.{List, [], ◌∷◌}
use mathlib.Core.Bool.{true, and-eq-true_iff}
use Prim.Native.Nat.{ℕ, suc, ◌+◌, ◌*◌, ◌≤◌, ◌<◌}
use native.Mathlib.Omega.{arith}
use lib.ListN.{length, length-append}
use borrow.Author.Tests.{leb-true}
use Rattle.lists.specs.Lists.{all}
use Rattle.lists.proofs.members.Each.{Each, AllOfLength}
use Rattle.text.specs.Decimal.{decimal, spaced_numbers}
use Rattle.text.proofs.Decimal.{decimal-length}
use Rattle.sheet.specs.Limits.{most_items, greatest_mark, mark_digits}
use Rattle.sheet.specs.Contents.{Contents}
use Rattle.sheet_lines.specs.Marks.{allowed, allowed_row}
use Rattle.strict_text.specs.StrictText.{head_text, yard_text, yard_texts, rows_in_use, body_text, sheet_text, strict_text, longest_head_text, longest_yard_text, longest_strict}
use Rattle.strict_text.specs.WithinLimits.{WithinLimits}
use Rattle.strict_text.proofs.WithinLimits.{rows-in-use, marks-in-use}

mark-length : (n : ℕ) → n ≤ greatest_mark → length (decimal n) ≤ mark_digits
mark-length n h = decimal-length n mark_digits (omega arith) (omega arith)

numbers-length : (ns : List ℕ) → Each (λ n. n ≤ greatest_mark) ns → length (spaced_numbers ns) ≤ length ns * suc mark_digits
unfolding spaced_numbers
numbers-length [] f = omega arith
numbers-length (n ∷ ns) f = simp length-append (omega (arith, mark-length n f.0, numbers-length ns f.1))

head-length : (agents items : ℕ) → agents < 10 → items < 100 → length (head_text agents items) ≤ longest_head_text
unfolding head_text
head-length agents items few few_items =
    simp length-append (omega (arith, decimal-length agents 1 (omega arith) few, decimal-length items 2 (omega arith) few_items))

-- a row of no more marks than a sheet has pieces, none of them above the greatest
abbrev pub SmallRow : List ℕ → Type 0
SmallRow row = (length row ≤ most_items) × Each (λ n. n ≤ greatest_mark) row

yard-length : (yard : ℕ) (row : List ℕ) → yard < 10 → SmallRow row → length (yard_text yard row) ≤ longest_yard_text
unfolding yard_text
yard-length yard row y f = simp length-append (omega (arith, decimal-length yard 1 (omega arith) y, numbers-length row f.1))

pub yards-length : (yard : ℕ) (rows : List (List ℕ)) → yard + length rows ≤ 10 → Each SmallRow rows → length (yard_texts yard rows) ≤ length rows * longest_yard_text
unfolding yard_texts
yards-length yard [] y f = omega arith
yards-length yard (row ∷ rows) y f =
    simp length-append (omega (arith, yard-length yard row (omega arith) f.0, yards-length (yard + 1) rows (omega arith) f.1))

-- allowed marks are no greater, and rows of them are small
small-marks : (row : List ℕ) → allowed_row greatest_mark row ≡ true → Each (λ n. n ≤ greatest_mark) row
small-marks [] f = tt
small-marks (n ∷ row) f =
    let both = (and-eq-true_iff (allowed greatest_mark n) (allowed_row greatest_mark row)).0 f in
    (leb-true n greatest_mark both.0, small-marks row both.1)

small-rows : (items : ℕ) (rows : List (List ℕ)) → items ≤ most_items → AllOfLength items rows → all (allowed_row greatest_mark) rows ≡ true → Each SmallRow rows
small-rows items [] p l f = tt
small-rows items (row ∷ rows) p l f =
    let both = (and-eq-true_iff (allowed_row greatest_mark row) (all (allowed_row greatest_mark) rows)).0 f in
    ((omega (arith, l.0), small-marks row both.0), small-rows items rows p l.1 both.1)

-- no strict text of a table within the limits is longer
pub length-strict_text : {c : Contents} → WithinLimits c → length (strict_text c) ≤ longest_strict
unfolding strict_text sheet_text body_text
length-strict_text {c} w =
    let few = w.counts.few in
    let few_items = w.counts.few_items in
    let rows = rows_in_use c.agents c.items c.table in
    let small = small-rows c.items rows few_items (marks-in-use w) w.marks_allowed in
    let lines = yards-length 1 rows (omega (arith, rows-in-use w)) small in
    simp length-append (omega (arith, head-length c.agents c.items (omega arith) (omega arith), lines, rows-in-use w))
