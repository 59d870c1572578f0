-- The terms of document 01 for a number of agents: what K is, document 01's table of them, how great they are, and that no more than the whole share is promised.
-- Assumes nothing.
use mathlib.Core.Path.{◌≡◌, refl}
use mathlib.Core.List.{[], ◌∷◌, map}
use Prim.Native.Nat.{ℕ, ◌%◌, ◌≤◌}
use native.Mathlib.Omega.{arith}
use Rattle.lists.specs.Lists.{range}
use Rattle.sheet.specs.Limits.{most_agents}
use Rattle.terms.specs.Terms.{largest_odd, terms_for}

-- K is odd, not above n, and the largest such number
pub largest_odd-largest : (n : ℕ) → 1 ≤ n → (largest_odd n % 2 ≡ 1) × (largest_odd n ≤ n) × ((k : ℕ) → k % 2 ≡ 1 → k ≤ n → k ≤ largest_odd n)
unfolding largest_odd
largest_odd-largest n some = omega arith

-- the formula's row for n agents: n, top and bottom
abbrev row : ℕ → ℕ × ℕ × ℕ
row n = (n, (terms_for n).top, (terms_for n).bottom)

-- the table of "Rounds", a row for each number of agents
pub terms-table : map row (range 1 most_agents) ≡
    (1, 2, 2)
    ∷ (2, 2, 2)
    ∷ (3, 6, 8)
    ∷ (4, 6, 8)
    ∷ (5, 10, 14)
    ∷ (6, 10, 14)
    ∷ []
unfolding terms_for largest_odd
terms-table = refl

pub bottom-positive : (n : ℕ) → 1 ≤ (terms_for n).bottom
unfolding terms_for largest_odd
bottom-positive n = omega arith

-- top is at most bottom
pub top-le-bottom : (n : ℕ) → (terms_for n).top ≤ (terms_for n).bottom
unfolding terms_for largest_odd
top-le-bottom n = omega arith

-- the terms of a sheet are small
pub top_small : (n : ℕ) → n ≤ most_agents → (terms_for n).top ≤ 10
unfolding terms_for largest_odd
top_small n few = omega arith

pub bottom-small : (n : ℕ) → n ≤ most_agents → (terms_for n).bottom ≤ 14
unfolding terms_for largest_odd
bottom-small n few = omega arith
