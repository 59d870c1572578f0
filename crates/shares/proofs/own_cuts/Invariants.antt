-- The loop's invariant: the shares and the cuts of the first i agents are in their places.
use mathlib.Core.Path.{◌≡◌}
use mathlib.Core.List.{map}
use Rattle.lists.specs.Lists.{range, padded}
use Rattle.sheet.specs.Limits.{most_agents}
use Rattle.sheet.specs.Amounts.{SmallAmounts}
use Rattle.shares.specs.Shares.{share_of}
use Rattle.shares.specs.Stored.{blank_cut}
use Rattle.shares.proofs.EachAgent.{cut_at}
use Rattle.shares.proofs.own_cuts.Given as goal

-- what the loop keeps
abbrev pub invariant-loop-i : goal.invariant-loop-i
invariant-loop-i l =
    (l.shares ≡ padded most_agents 0 (map (share_of l.contents) (range 1 l.i)))
    × (l.cuts ≡ padded most_agents blank_cut (map (cut_at l.contents.agents l.contents.items l.contents.table) (range 1 l.i)))
    × SmallAmounts l.shares
