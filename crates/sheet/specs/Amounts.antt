-- Amounts for the agents, each in the agent's place: shares, totals or values of bundles. Assumes nothing: these are definitions.
use Rattle.std.specs.Prelude.{Bool, List, ℕ, ◌≤◌, leb, get_or}
use Rattle.lists.specs.Lists.{range, nth, all}
use Rattle.sheet.specs.Limits.{greatest_sum}

-- whether each of the first n amounts is at most the one in its place of the others
abbrev pub each_at_most : List ℕ → List ℕ → ℕ → Bool
each_at_most low high n = all (λ i. leb (nth 0 low i) (nth 0 high i)) (range 1 n)

-- no amount is greater than the values of a set of items can sum to
abbrev pub SmallAmounts : List ℕ → Type 0
SmallAmounts amounts = (i : ℕ) → get_or amounts i 0 ≤ greatest_sum
