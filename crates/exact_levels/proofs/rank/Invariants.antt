-- The loop's invariant: the levels tell how many of the first i agents can be served.
use mathlib.Core.Path.{◌≡◌}
use mathlib.Core.List.{List}
use Prim.Native.Nat.{ℕ, ◌+◌, ◌^◌, ◌≤◌}
use lib.ListN.{length, get_or}
use Rattle.sheet.specs.Limits.{most_agents, most_items}
use Rattle.exact_levels.specs.ServedSets.{Ranked}
use Rattle.exact_levels.specs.internal.Keeping.{AllSets}
use Rattle.exact_levels.proofs.rank.Given as goal

pub record Ranking (table : List (List ℕ)) (shares : List ℕ) (last counted all sets : ℕ) (levels : List ℕ) (i : ℕ) : Type 0 where
  pub few : last ≤ most_agents
  pub all_sets : AllSets counted sets
  pub up_to : sets ≡ all + 1
  pub places : length levels ≡ 2 ^ most_items
  pub ranked : Ranked table shares i all levels
  pub behind : (set : ℕ) → sets ≤ set → get_or levels set 0 ≡ 0

abbrev pub invariant-loop-i : goal.invariant-loop-i
invariant-loop-i l = Ranking l.contents.table l.shares l.last l.counted l.all l.sets l.levels l.i
