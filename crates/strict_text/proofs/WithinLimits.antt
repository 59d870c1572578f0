-- What a table within the limits has: six rows of twelve places, and in use a row a yard with a mark a piece.
-- Assumes nothing.
use mathlib.Core.Path.{◌≡◌, sym, ap, ◌∙◌, subst}
use native.Mathlib.Omega.{arith}
use lib.ListN.{length}
use Rattle.lists.proofs.members.Each.{AllOfLength}
use Rattle.sheet.specs.Limits.{most_agents, most_items}
use Rattle.sheet.specs.Contents.{Contents}
use Rattle.strict_text.specs.StrictText.{rows_in_use}
use Rattle.strict_text.specs.WithinLimits.{WithinLimits}
use Rattle.strict_text.proofs.RowsInUse.{rows_in_use-rows, rows_in_use-places, table_of-rows, table_of-places}

module _ {c : Contents} (w : WithinLimits c) where
  pub table-rows : length c.table ≡ most_agents
  table-rows = ap length w.blank_beyond ∙ table_of-rows c.agents c.items c.table w.counts.few

  pub table-places : AllOfLength most_items c.table
  table-places = subst (AllOfLength most_items) (sym w.blank_beyond) (table_of-places c.agents c.items c.table w.counts.few_items)

  pub rows-in-use : length (rows_in_use c.agents c.items c.table) ≡ c.agents
  rows-in-use = rows_in_use-rows c.agents c.items c.table (omega (arith, table-rows, w.counts.few))

  pub marks-in-use : AllOfLength c.items (rows_in_use c.agents c.items c.table)
  marks-in-use = rows_in_use-places c.agents c.items c.table most_items w.counts.few_items table-places
