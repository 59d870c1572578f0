-- How long a strict text is at most, whatever the counts: the head repeats them, and the lines are those of the rows and marks that the
-- table has. Assumes nothing.
use mathlib.Core.List.{List, [], ◌∷◌}
use Prim.Native.Nat.{ℕ, ◌+◌, ◌*◌, ◌^◌, ◌≤◌, ◌<◌}
use native.Mathlib.Omega.{arith}
use lib.ListN.{length, take, length-append, length-map, length-take}
use mir.Val.{Val}
use denote.Laws.{Is}
use denote.Plain.{UInt}
use denote.Array.{Array, each}
use denote.Shadow.{shadow}
use Rattle.lists.proofs.members.Each.{Each, each_take, each_map}
use Rattle.text.proofs.Decimal.{decimal-length}
use Rattle.sheet.specs.Limits.{most_agents, most_items, greatest_mark}
use Rattle.sheet.specs.Contents.{Contents}
use Rattle.sheet.proofs.Limits.{mark_width}
use Rattle.strict_text.specs.StrictText.{head_text, rows_in_use, body_text, sheet_text, strict_text, longest_yard_text}
use Rattle.strict_text.proofs.TextLength.{SmallRow, yards-length}

-- the most digits of a number of 64 bits
abbrev count_digits : ℕ
count_digits = 20

-- the most bytes of the head: (sheet (yards ) (pieces )) and the line feed, and the digits of two counts
abbrev longest_head_of_any : ℕ
longest_head_of_any = 27 + 2 * count_digits

-- the most bytes of the whole: the head, a line for each yard, and (end) with the line feed
abbrev pub longest_of_any : ℕ
longest_of_any = longest_head_of_any + most_agents * longest_yard_text + 6

-- the marks and rows of a table that a function is handed are those of a sheet
marks-handed : (row : List ℕ) (us : List Val) → shadow (each ℕ (UInt mark_width).own_val row us) → Each (λ n. n ≤ greatest_mark) row
marks-handed [] us p = tt
marks-handed (n ∷ row) [] p = absurd p
marks-handed (n ∷ row) (u ∷ us) p = (omega (arith, p.0.1), marks-handed row us p.1)

rows-handed : (rows : List (List ℕ)) (us : List Val) → shadow (each (List ℕ) (Array (UInt mark_width) most_items).own_val rows us) → Each SmallRow rows
rows-handed [] us p = tt
rows-handed (row ∷ rows) [] p = absurd p
rows-handed (row ∷ rows) (u ∷ us) p = ((omega (arith, p.0.1.0.1), marks-handed row p.0.0 p.0.1.1), rows-handed rows us p.1)

-- so are those that are in use
rows-used : (agents items : ℕ) (table : List (List ℕ)) → Each SmallRow table → Each SmallRow (rows_in_use agents items table)
rows-used agents items table small =
    each_map SmallRow SmallRow (take items) (λ row h. (omega (arith, length-take items row, h.0), each_take _ items row h.1)) (take agents table)
    (each_take SmallRow agents table small)

head-length : (agents items : ℕ) → agents < 10 ^ count_digits → items < 10 ^ count_digits → length (head_text agents items) ≤ longest_head_of_any
unfolding head_text
head-length agents items few few_items =
    simp length-append (omega (arith, decimal-length agents count_digits (omega arith) few, decimal-length items count_digits (omega arith) few_items))

pub length-of-any : (c : Contents) (vs : List Val) → c.agents < 10 ^ count_digits → c.items < 10 ^ count_digits → Is (Array (Array (UInt mark_width) most_items) most_agents) c.table vs
    → length (strict_text c) ≤ longest_of_any
unfolding strict_text sheet_text body_text
length-of-any c vs few few_items told =
    let rows = rows_in_use c.agents c.items c.table in
    let count : length rows ≤ most_agents = simp length-map (omega (arith, length-take c.agents c.table, told.1.0.1)) in
    let lines = yards-length 1 rows (omega arith) (rows-used c.agents c.items c.table (rows-handed c.table told.0 told.1.1)) in
    simp length-append (omega (arith, head-length c.agents c.items few few_items, lines))
