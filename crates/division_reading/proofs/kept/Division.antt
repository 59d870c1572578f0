-- A division of counts beyond the limits, and of counts within them. Assumes nothing.
use mathlib.Core.Path.{◌≡◌}
use mathlib.Core.Bool.{and-false}
use mathlib.Core.List.{List}
use Rattle.std.specs.Prelude.{None}
use Prim.Native.Nat.{ℕ, ◌≤◌, ◌<◌}
use lib.Dec.{leb}
use borrow.Author.Tests.{le-leb, lt-leb}
use Rattle.sheet.specs.Limits.{most_agents, most_items}
use Rattle.tokens.specs.Tokens.{Token}
use Rattle.division_reading.specs.Grammar.{division_text, reading_division}

module _ (agents items : ℕ) (ts : List Token) where
  pub too-many-agents : most_agents < agents → reading_division agents items ts ≡ None
  unfolding reading_division
  too-many-agents h = rw (lt-leb agents most_agents h)

  pub too-many-items : most_items < items → reading_division agents items ts ≡ None
  unfolding reading_division
  too-many-items h = rw (lt-leb items most_items h, and-false (leb agents most_agents))

  pub reading_division-text : agents ≤ most_agents → items ≤ most_items → reading_division agents items ts ≡ division_text agents items ts
  unfolding reading_division
  reading_division-text few few_items = rw (le-leb agents most_agents few, le-leb items most_items few_items)
