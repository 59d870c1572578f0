-- How many sets name an item, by its bit, and set after set. Assumes nothing.
use mathlib.Core.Path.{◌≡◌, sym, ap, ◌∙◌}
use mathlib.Core.Bool.{Bool}
use mathlib.Core.Logic.{⊎_elim}
use mathlib.Core.List.{List, [], ◌∷◌, map}
use Prim.Native.Nat.{ℕ, ◌+◌, ◌/◌, ◌%◌, ◌^◌, ◌<◌}
use native.Mathlib.Omega.{arith}
use lib.Dec.{eqb}
use lib.ListN.{length, take, get_or}
use borrow.Author.Tests.{eq-eqb, ne_eqb}
use Rattle.lists.specs.Lists.{bit, count, elem}
use Rattle.lists.proofs.Cases.{eq-or-ne}
use Rattle.lists.proofs.places.Passing.{take_next}
use Rattle.lists.proofs.members.Counting.{count_map, count-append}
use Rattle.lists.proofs.members.Congruence.{count-cong}
use Rattle.sheet.specs.Limits.{most_items}
use Rattle.sheet.specs.Sets.{items_of}
use Rattle.sheet.proofs.sets.Members.{elem-items}
use Rattle.sheet.proofs.sets.Bits.{names-bit}

-- whether a set has the bit
abbrev pub has_bit : ℕ → ℕ → Bool
has_bit place set = eqb (set / place % 2) 1

-- the sets that name item i + 1 are those that have its bit
pub count-naming : (sets : List ℕ) (i : ℕ) → i < most_items → count (elem (i + 1)) (map items_of sets) ≡ count (has_bit (2 ^ i)) sets
count-naming sets i low =
    count_map (elem (i + 1)) items_of sets
    ∙ count-cong (λ set. elem (i + 1) (items_of set)) (has_bit (2 ^ i)) sets
    (λ set m. elem-items set (i + 1) (omega arith) (omega arith) ∙ names-bit set i)

bit-odd : (x : ℕ) → bit (eqb (x % 2) 1) ≡ x % 2
bit-odd x = ⊎_elim (λ (e : x % 2 ≡ 1). rw (eq-eqb (x % 2) 1 e) (sym e)) (λ ne. rw (ne_eqb (x % 2) 1 ne) (omega arith)) (eq-or-ne (x % 2) 1)

-- one set more
pub count_next : (place : ℕ) (sets : List ℕ) (i : ℕ) → i < length sets
    → count (has_bit place) (take (i + 1) sets) ≡ count (has_bit place) (take i sets) + get_or sets i 0 / place % 2
count_next place sets i more =
    ap (count (has_bit place)) (take_next sets i more)
    ∙ count-append (has_bit place) (take i sets) (get_or sets i 0 ∷ [])
    ∙ omega (arith, bit-odd (get_or sets i 0 / place))
