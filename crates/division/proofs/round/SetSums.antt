-- The sets of the bundles that are handed out, and the set of what is left. Assumes nothing.
use mathlib.Core.Path.{◌≡◌, sym, ap₂, ◌∙◌}
use mathlib.Core.Bool.{true, not}
use mathlib.Core.List.{List}
use Prim.Native.Nat.{ℕ, ◌+◌, ◌-◌, ◌^◌}
use lib.ListN.{length}
use Rattle.lists.specs.Lists.{elem, distinct}
use Rattle.lists.specs.Sums.{sum_over}
use Rattle.lists.proofs.sums.Totals.{sum_over-cong}
use Rattle.sheet.specs.Sets.{set_of}
use Rattle.sheet.proofs.sets.Bits.{set_of-sum}
use Rattle.bundling.specs.Bundles.{items_in, bundle}
use Rattle.bundling.proofs.Sums.{sum_over-handed}

-- the sets of the bundles handed out and the set of the items left are the set of all items
pub set_of-handed : (chosen ks l : List ℕ) → distinct chosen ≡ true → length l ≡ length ks
    → sum_over (λ c. set_of (bundle ks l c)) chosen + set_of (items_in (λ c. not (elem c chosen)) ks l) ≡ set_of ks
set_of-handed chosen ks l once same =
    ap₂ ◌+◌
    (sum_over-cong (λ c. set_of (bundle ks l c)) (λ c. sum_over (λ k. 2 ^ (k - 1)) (bundle ks l c)) chosen (λ c m. set_of-sum (bundle ks l c)))
    (set_of-sum (items_in (λ c. not (elem c chosen)) ks l))
    ∙ sum_over-handed (λ k. 2 ^ (k - 1)) chosen ks l once same
    ∙ sym (set_of-sum ks)
