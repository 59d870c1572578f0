-- Allocations: who gets what. Assumes nothing: these are definitions.
use Rattle.std.specs.Prelude.{◌≡◌, ℕ, ◌≤◌, length}
use mathlib.Core.List.{List, Memᴰ as Mem}
use Rattle.lists.specs.Lists.{count, elem}

-- "each piece of the table is in exactly one pile and no pile names any other piece": one bundle for each of n agents, of m items
pub record Allocates (n m : ℕ) (bundles : List (List ℕ)) : Type 0 where
  pub bundle_each : length bundles ≡ n
  pub item_in_one_bundle : (k : ℕ) → 1 ≤ k → k ≤ m → count (elem k) bundles ≡ 1
  pub no_other_item : (bundle : List ℕ) → Mem bundle bundles → (k : ℕ) → Mem k bundle → (1 ≤ k) × (k ≤ m)
