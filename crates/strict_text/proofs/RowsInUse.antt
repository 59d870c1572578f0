-- The marks in use of a table, the lengths of its rows, and its lines one behind the other. Assumes nothing.
use mathlib.Core.Path.{◌≡◌, refl, sym, ap, ap₂, ◌∙◌}
use mathlib.Core.List.{List, [], ◌∷◌, ◌++◌, map, map-append, append-nil, append_assoc}
use Rattle.std.specs.Prelude.{Some}
use Prim.Native.Nat.{ℕ, ◌+◌, ◌-◌, ◌≤◌, ◌<◌}
use native.Mathlib.Numerals.{add-one}
use native.Mathlib.Omega.{arith}
use lib.ListN.{length, get_or, take, length-map, length-take}
use lib.Seq.{take-suc, take_at, length-take-le}
use Rattle.lists.specs.Lists.{padded}
use Rattle.lists.proofs.places.Padding.{length-padded}
use Rattle.lists.proofs.members.Each.{AllOfLength, each_append, each_take, each_map, each-replicate}
use Rattle.sheet.specs.Limits.{MarkLimits, most_agents, most_items, blank_row}
use Rattle.sheet.specs.Answers.{accepted}
use Rattle.sheet.specs.Contents.{Contents}
use Rattle.tokens.specs.Tokens.{Token}
use Rattle.sheet_lines.specs.Grammar.{Body, body}
use Rattle.sheet_lines.specs.Kept.{table_of}
use Rattle.sheet_lines.proofs.Shape.{lines-shape}
use Rattle.reading.specs.Reading.{contents_of}
use Rattle.reading.proofs.Accepted.{contents_of-carried}
use Rattle.strict_text.specs.StrictText.{yard_text, yard_texts, rows_in_use, lines_of}

-- the marks in use of the table of some rows are these rows
take-padded-rows : (items : ℕ) (rows : List (List ℕ)) → AllOfLength items rows → map (take items) (map (padded most_items 0) rows) ≡ rows
take-padded-rows items [] l = refl
take-padded-rows items (row ∷ rows) l = ap₂ ◌∷◌ (take_at row _ items l.0) (take-padded-rows items rows l.1)

pub rows_in_use-table_of : (agents items : ℕ) (rows : List (List ℕ)) → length rows ≡ agents → AllOfLength items rows → rows_in_use agents items (table_of rows) ≡ rows
rows_in_use-table_of agents items rows n l =
    ap (map (take items)) (take_at (map (padded most_items 0) rows) _ agents (length-map rows (padded most_items 0) ∙ n)) ∙ take-padded-rows items rows l

padded-places : (items : ℕ) (rows : List (List ℕ)) → items ≤ most_items → AllOfLength most_items (map (padded most_items 0) (map (take items) rows))
padded-places items [] p = tt
padded-places items (row ∷ rows) p = (length-padded most_items 0 (take items row) (omega (arith, length-take items row)), padded-places items rows p)

module _ (agents items : ℕ) (table : List (List ℕ)) where
  -- a table of at least as many rows and places as are in use
  pub rows_in_use-rows : agents ≤ length table → length (rows_in_use agents items table) ≡ agents
  rows_in_use-rows h = length-map (take agents table) (take items) ∙ length-take-le agents table h

  pub rows_in_use-places : (n : ℕ) → items ≤ n → AllOfLength n table → AllOfLength items (rows_in_use agents items table)
  rows_in_use-places n p l = each_map _ _ (take items) (λ row e. length-take-le items row (omega arith)) (take agents table) (each_take _ agents table l)

  -- the table of the marks in use has six rows of twelve places
  pub table_of-rows : agents ≤ most_agents → length (table_of (rows_in_use agents items table)) ≡ most_agents
  table_of-rows h = length-padded most_agents blank_row (map (padded most_items 0) (rows_in_use agents items table)) (simp length-map (omega (arith, length-take agents table)))

  pub table_of-places : items ≤ most_items → AllOfLength most_items (table_of (rows_in_use agents items table))
  table_of-places p =
      let rows = rows_in_use agents items table in
      each_append _ (map (padded most_items 0) rows) _ (padded-places items (take agents table) p)
      (each-replicate _ (most_agents - length (map (padded most_items 0) rows)) blank_row refl)

-- one yard line more
yard_texts-snoc : (yard : ℕ) (rows : List (List ℕ)) (row : List ℕ) → yard_texts yard (rows ++ (row ∷ [])) ≡ yard_texts yard rows ++ yard_text (length rows + yard) row
unfolding yard_texts
yard_texts-snoc yard [] row = append-nil (yard_text yard row) ∙ ap (λ k. yard_text k row) (omega arith)
yard_texts-snoc yard (first ∷ rows) row =
    ap (λ t. yard_text yard first ++ t) (yard_texts-snoc (yard + 1) rows row)
    ∙ sym (append_assoc (yard_text yard first) (yard_texts (yard + 1) rows) (yard_text (length rows + (yard + 1)) row))
    ∙ ap (λ k. (yard_text yard first ++ yard_texts (yard + 1) rows) ++ yard_text k row) (omega arith)

pub yard_texts-next : (items : ℕ) (table : List (List ℕ)) (i : ℕ) → i < length table
    → yard_texts 1 (rows_in_use (i + 1) items table) ≡ yard_texts 1 (rows_in_use i items table) ++ yard_text (i + 1) (take items (get_or table i []))
yard_texts-next items table i more =
    let rows : length (rows_in_use i items table) ≡ i = length-map (take i table) (take items) ∙ length-take-le i table (omega arith) in
    ap (λ k. yard_texts 1 (map (take items) (take k table))) (add-one i)
    ∙ ap (λ t. yard_texts 1 (map (take items) t)) (take-suc table i [] more)
    ∙ ap (yard_texts 1) (map-append (take items) (take i table) (get_or table i [] ∷ []))
    ∙ yard_texts-snoc 1 (rows_in_use i items table) (take items (get_or table i []))
    ∙ ap (λ k. yard_texts 1 (rows_in_use i items table) ++ yard_text (k + 1) (take items (get_or table i []))) rows

-- the lines of what lines carry are these lines
pub lines-carried : (limits : MarkLimits) (agents items : ℕ) (ts : List Token) (lines : Body) (last : List Token) (c : Contents) → body limits.digits agents items ts ≡ Some (lines, last)
    → contents_of limits agents items lines ≡ accepted c → lines_of c ≡ lines
lines-carried limits agents items ts lines last c are carries =
    let shape = lines-shape limits.digits agents items ts lines last are in
    let told = contents_of-carried limits agents items lines c carries in
    rw (told.agents_are, told.items_are, told.table_is) (ap (λ rows. record { rows = rows }) (rows_in_use-table_of agents items lines.rows shape.0 shape.1))

-- what is carried, with nothing in the places that are not in use
abbrev pub blanked_beyond : Contents → Contents
blanked_beyond c = record { agents = c.agents; items = c.items; table = table_of (lines_of c).rows }
