-- The text of an exact division as the code has it, a set of items for each agent. Assumes nothing: these are definitions.
use mathlib.Core.List.{List, ◌++◌, flat_map}
use Rattle.std.specs.Prelude.{ℕ}
use Rattle.lists.specs.Lists.{range, nth}
use Rattle.text.specs.Bytes.{bytes}
use Rattle.sheet.specs.Sets.{items_of}
use Rattle.exact_printing.specs.ExactText.{spaced_group}

-- the bundle of agent i
abbrev pub set_group : List ℕ → ℕ → List ℕ
set_group sets i = spaced_group (items_of (nth 0 sets i))

-- the text for the first n sets
unfoldable pub sets_text : ℕ → List ℕ → List ℕ
sets_text n sets = bytes "(exact" ++ flat_map (set_group sets) (range 1 n) ++ bytes ")\n"
