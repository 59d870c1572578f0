-- A list that names an agent for each item is a way to allocate them: the bundles that it makes. Assumes nothing.
use mathlib.Core.List.{List, Memᴰ as Mem}
use mathlib.Core.List.{Sublistᴰ as Sublist}
use Prim.Native.Nat.{ℕ}
use Rattle.lists.specs.Lists.{range, Rising}
use Rattle.lists.proofs.ranges.Ranges.{mem-within}
use Rattle.lists.proofs.ranges.RangeSublists.{range-sublist-rising}
use Rattle.lists.proofs.dictionary.Listed.{lists_over-in}
use Rattle.sheet.specs.Allocations.{Allocates}
use Rattle.maximin.specs.Partitions.{partitions}
use Rattle.bundling.proofs.Allocating.{all_bundles-sublist, all_bundles-allocate}
use Rattle.exact_division.specs.Exact.{bundles_by}

module _ (n m : ℕ) (agents : List ℕ) where
  -- each bundle is a sub-list of the items
  pub bundles_by-sublist : (b : List ℕ) → Mem b (bundles_by n m agents) → Sublist b (range 1 m)
  bundles_by-sublist = all_bundles-sublist n m agents

  -- the items of a bundle rise
  pub bundles_by-rising : (b : List ℕ) → Mem b (bundles_by n m agents) → Rising b
  bundles_by-rising b mb = range-sublist-rising m (bundles_by-sublist b mb)

  -- every list of `partitions` gives each item to one agent
  pub bundles_by-allocates : Mem agents (partitions n m) → Allocates n m (bundles_by n m agents)
  bundles_by-allocates listed = let (each, places) = lists_over-in (range 1 n) m listed in all_bundles-allocate n m agents (mem-within n agents each) places
