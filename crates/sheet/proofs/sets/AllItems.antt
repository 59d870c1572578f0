-- The set of all items of a sheet names the items from 1 to their count. Assumes nothing.
use mathlib.Core.Path.{◌≡◌, ap, ◌∙◌}
use Prim.Native.Nat.{ℕ, ◌≤◌, min}
use native.Mathlib.Omega.{arith}
use Rattle.lists.specs.Lists.{range}
use Rattle.lists.proofs.ranges.Ranges.{range-sublist}
use Rattle.sheet.specs.Limits.{most_items, set_bits}
use Rattle.sheet.specs.Sets.{items_of, set_of}
use Rattle.sheet.proofs.sets.Sets.{items-set_of}

pub items-of-all : (m : ℕ) → m ≤ most_items → items_of (set_of (range 1 (min m most_items))) ≡ range 1 m
items-of-all m few =
    let same : min m most_items ≡ m = omega arith in
    ap (λ k. items_of (set_of (range 1 k))) same ∙ items-set_of (range 1 m) (range-sublist 1 m set_bits (omega arith))
