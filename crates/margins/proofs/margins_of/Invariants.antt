-- The loop's invariant: the margins of the first i agents are in their places.
use mathlib.Core.Path.{◌≡◌}
use mathlib.Core.List.{List, map}
use Prim.Native.Nat.{ℕ}
use lib.IntN.{ℤ, pos}
use Rattle.lists.specs.Lists.{range, nth, padded}
use Rattle.sheet.specs.Limits.{most_agents}
use Rattle.terms.specs.declared.Terms.{Terms}
use Rattle.margins.specs.Margins.{limited_margin}
use Rattle.margins.proofs.margins_of.Given as goal

-- the margin of agent k
abbrev pub margin_at : Terms → List ℕ → List ℕ → ℕ → ℤ
margin_at terms worths shares k = limited_margin terms (nth 0 worths k) (nth 0 shares k)

abbrev pub invariant-loop-i : goal.invariant-loop-i
invariant-loop-i l = l.margins ≡ padded most_agents (pos 0) (map (margin_at l.terms l.worths l.shares) (range 1 l.i))
