-- How many growth partitions there are: the two figures of document 02, and fewer items and bundles have no more. Assumes nothing.
use mathlib.Core.Path.{◌≡◌, subst}
use Prim.Native.Nat.{ℕ, ◌+◌, ◌-◌, ◌≤◌}
use native.Mathlib.Omega.{arith}
use Rattle.sheet.specs.Limits.{most_agents, most_items}
use Rattle.growth.specs.Growth.{growths}
use Rattle.growth.specs.Counts.{growth_count}
use Rattle.growth.proofs.Counted.{length-growth_from, more-bundles, more-items}

-- the recurrence counts the growth partitions of k items
pub growths-counted : (n k : ℕ) → growths n k ≡ growth_count n 0 k
unfolding growths
growths-counted n k = length-growth_from n 0 k (omega arith)

-- "Twelve pieces have 88,574 growth layouts for three piles"
pub twelve-into-three : growths 3 12 ≡ 88574
twelve-into-three = growths-counted 3 12

-- "and 3,403,127 for six"
pub twelve-into-six : growths 6 12 ≡ 3403127
twelve-into-six = growths-counted 6 12

-- fewer items and fewer bundles have no more growth partitions
pub fewer-growths : (m n j k : ℕ) → 1 ≤ m → m ≤ n → j ≤ k → growths m j ≤ growths n k
fewer-growths m n j k some few less =
    let bundles : m + (n - m) ≡ n = omega arith in
    let items : j + (k - j) ≡ k = omega arith in
    omega (arith, growths-counted m j, growths-counted n k, rw items at (more-items m j (k - j) some), rw bundles at (more-bundles m k (n - m)))

-- the most growth partitions that a cut within the limits has
abbrev pub most_growths : ℕ
most_growths = 3403127

pub growths-le-most : (n k : ℕ) → 1 ≤ n → n ≤ most_agents → k ≤ most_items → growths n k ≤ most_growths
growths-le-most n k some few less = subst (λ most. growths n k ≤ most) twelve-into-six (fewer-growths n 6 k 12 some few less)

-- there is at least one: all items in bundle 1
pub growths-positive : (n k : ℕ) → 1 ≤ n → 1 ≤ growths n k
growths-positive n k some = omega (arith, fewer-growths n n 0 k some (omega arith) (omega arith), growths-counted n 0)
