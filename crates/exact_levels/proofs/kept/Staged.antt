-- What can be kept of all sets once the first items may be kept, and with one item more. Assumes nothing.
use mathlib.Core.Path.{◌≡◌, sym, ap, subst, ◌∙◌}
use mathlib.Core.Bool.{Bool, true, false, cond}
use mathlib.Core.Logic.{⊎_elim}
use mathlib.Core.List.{List}
use Prim.Native.Nat.{ℕ, zero, suc, ◌+◌, ◌-◌, ◌*◌, ◌/◌, ◌%◌, ◌^◌, ◌≤◌, ◌<◌, max}
use native.Mathlib.Nat.{one-le-pow, pow-le-pow_right, pow-succ', zero-add, suc-add, one-mul, mul_assoc}
use native.Mathlib.Numerals.{add-one}
use native.Mathlib.Omega.{arith}
use lib.Dec.{eqb}
use lib.ListN.{length, get_or}
use borrow.Author.Tests.{eq-eqb, ne_eqb}
use Rattle.lists.proofs.Cases.{lt-or-ge, eq-or-ne}
use Rattle.sheet.specs.Limits.{most_items, value_bound}
use Rattle.exact_levels.specs.internal.Keeping.{served_bonus, AllSets, IsMost, MostKept, SmallFrom, Started, CanKeepItem, ItemKept}
use Rattle.exact_levels.proofs.kept.Most.{most-none, most-left, most-with}

-- a power of two in two parts
power-add : (a b : ℕ) → 2 ^ (a + b) ≡ 2 ^ a * 2 ^ b
power-add zero b = ap (λ k. 2 ^ k) (zero-add b) ∙ sym (one-mul (2 ^ b))
power-add (suc a) b =
    ap (λ k. 2 ^ k) (suc-add a b) ∙ pow-succ' 2 (a + b) ∙ ap (λ p. 2 * p) (power-add a b) ∙ sym (mul_assoc 2 (2 ^ a) (2 ^ b)) ∙ sym (ap (λ p. p * 2 ^ b) (pow-succ' 2 a))

module _ (valuation levels : List ℕ) (before items sets : ℕ) where
  -- the first i items may be kept
  pub record Staged (kept : List ℕ) (i : ℕ) : Type 0 where
    pub places : length kept ≡ 2 ^ most_items
    pub most : MostKept valuation levels before i sets kept
    pub small : SmallFrom 0 (2 ^ i) kept

  module _ (all : AllSets items sets) where
    pub few-sets : sets ≤ 2 ^ most_items
    few-sets = omega (arith, all.all, pow-le-pow_right {n = 2} (omega arith) all.few)

    pub staged-none : (kept : List ℕ) → Started levels before sets kept → Staged kept 0
    staged-none kept s =
        record {
          places = s.places;
          most = λ set lt. most-none valuation levels before set (omega (arith, few-sets)) (get_or kept set 0) (s.each set lt);
          small = s.small;
        }

    module _ (kept : List ℕ) (i : ℕ) (more : i < items) (staged : Staged kept i) where
      next_power : 2 * 2 ^ i ≡ 2 ^ (i + 1)
      next_power = sym (ap (λ k. 2 ^ k) (add-one i) ∙ pow-succ' 2 i)

      pub small-bit : 2 * 2 ^ i ≤ 2 ^ most_items
      small-bit =
          let upto : i + 1 ≤ most_items = omega (arith, all.few) in
          omega (arith, next_power, pow-le-pow_right {n = 2} (omega arith) upto)

      pub can-keep-item : CanKeepItem kept (2 ^ i) sets
      can-keep-item =
          let rest : items ≡ (items - (i + 1)) + (i + 1) = omega arith in
          record {
            places = staged.places;
            some = one-le-pow i 2 (omega arith);
            some_sets = omega (arith, all.all, one-le-pow items 2 (omega arith));
            within = few-sets;
            blocks = 2 ^ (items - (i + 1));
            all = all.all ∙ ap (λ k. 2 ^ k) rest ∙ power-add (items - (i + 1)) (i + 1) ∙ ap (λ p. 2 ^ (items - (i + 1)) * p) (sym next_power);
            small = staged.small;
          }

      module _ (new : List ℕ) (k : ItemKept kept (2 ^ i) (get_or valuation i 0) sets new) where
        next-most : (set : ℕ) → set < sets → IsMost valuation levels before (i + 1) set (get_or new set 0)
        next-most set lt = ⊎_elim named unnamed (eq-or-ne (set / 2 ^ i % 2) 1)
          where
            here-small : set < 2 ^ most_items
            here-small = omega (arith, few-sets)

            low : i < most_items
            low = omega (arith, all.few)

            named : set / 2 ^ i % 2 ≡ 1 → IsMost valuation levels before (i + 1) set (get_or new set 0)
            named odd =
                most-with valuation levels before set here-small i low odd (get_or kept set 0) (get_or kept (set - 2 ^ i) 0) (get_or new set 0) (staged.most set lt) (staged.most (set - 2 ^ i) (omega arith))
                (k.each set lt ∙ rw (eq-eqb (set / 2 ^ i % 2) 1 odd))

            unnamed : (set / 2 ^ i % 2 ≡ 1 → ⊥) → IsMost valuation levels before (i + 1) set (get_or new set 0)
            unnamed lacks =
                let same : get_or new set 0 ≡ get_or kept set 0 = k.each set lt ∙ rw (ne_eqb (set / 2 ^ i % 2) 1 lacks) in
                subst (IsMost valuation levels before (i + 1) set) (sym same) (most-left valuation levels before set here-small i low (get_or kept set 0) lacks (staged.most set lt))

        -- a mark more
        with-small : (set : ℕ) (b : Bool) → cond b (max (get_or kept set 0) (get_or kept (set - 2 ^ i) 0 + get_or valuation i 0)) (get_or kept set 0) ≤ served_bonus + value_bound * 2 ^ i + value_bound
        with-small set true = omega (arith, staged.small set (omega arith), staged.small (set - 2 ^ i) (omega arith), k.light)
        with-small set false = omega (arith, staged.small set (omega arith))

        next_small : SmallFrom 0 (2 ^ (i + 1)) new
        next_small set le =
            let some : 1 ≤ 2 ^ i = one-le-pow i 2 (omega arith) in
            ⊎_elim
            (λ (lt : set < sets). omega (arith, next_power, k.each set lt, with-small set (eqb (set / 2 ^ i % 2) 1)))
            (λ beyond. omega (arith, next_power, k.behind set beyond, staged.small set (omega arith)))
            (lt-or-ge set sets)

        pub staged-next : Staged new (i + 1)
        staged-next =
            record { places = k.places ∙ staged.places; most = next-most; small = next_small }
