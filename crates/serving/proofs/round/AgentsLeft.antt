-- A set of agents as a list: agents that a sheet can have, in rising order. Assumes nothing.
use mathlib.Core.Path.{◌≡◌, ap}
use mathlib.Core.List.{Sublistᴰ as Sublist}
use Prim.Native.Nat.{ℕ, ◌%◌, ◌^◌, ◌<◌}
use native.Mathlib.Nat.{mod-eq_of_lt}
use native.Mathlib.Omega.{arith}
use Rattle.lists.specs.Lists.{range}
use Rattle.sheet.specs.Limits.{most_agents}
use Rattle.sheet.specs.Sets.{items_of}
use Rattle.sheet.proofs.sets.Items.{items-sublist}
use Rattle.serving.specs.Serving.{agents_in}

pub agents_in-sublist : (left : ℕ) → Sublist (agents_in left) (range 1 most_agents)
agents_in-sublist left = items-sublist (left % 2 ^ most_agents) most_agents (omega arith) (omega arith)

-- a set that names only agents of a sheet
pub agents_in-items : (left : ℕ) → left < 2 ^ most_agents → agents_in left ≡ items_of left
agents_in-items left small = ap items_of (mod-eq_of_lt small)
