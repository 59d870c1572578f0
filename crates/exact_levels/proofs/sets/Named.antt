-- The test of a part, item by item. Assumes nothing.
use mathlib.Core.Path.{◌≡◌, refl, sym, ap, subst, ◌∙◌}
use mathlib.Core.Bool.{Bool, true, false, not, ◌||◌, true≢false}
use mathlib.Core.Logic.{⊎_elim}
use mathlib.Core.List.{Memᴰ as Mem}
use Prim.Native.Nat.{ℕ, ◌+◌, ◌-◌, ◌/◌, ◌%◌, ◌^◌, ◌≤◌, ◌<◌}
use native.Mathlib.Omega.{arith}
use lib.Dec.{eqb}
use borrow.Author.Tests.{eq-eqb, ne_eqb}
use Rattle.lists.specs.Lists.{range, all}
use Rattle.std.proofs.lemmas.Nat.{and_le_l}
use Rattle.std.proofs.lemmas.Nat.Bits.{bit_at_and, same_from_bits_below}
use Rattle.std.specs.Prelude.{bit_and}
use Rattle.lists.proofs.Cases.{eq-or-ne, lt-or-ge}
use Rattle.lists.proofs.ranges.Ranges.{in-range}
use Rattle.lists.proofs.members.Counting.{mem-all, all-mem, filter-mem, filter-sublist, sublist-filter, sublist-mem, mem-filter}
use Rattle.sheet.specs.Limits.{most_items, set_bits}
use Rattle.sheet.specs.Sets.{names, items_of}
use Rattle.sheet.proofs.sets.Items.{set_of-items}
use Rattle.sheet.proofs.sets.Bits.{names-bit}
use Rattle.exact_levels.specs.Parts.{IsPart, is_part}
use Rattle.exact_levels.proofs.sets.Parts.{some-part}

-- what is asked of item k
abbrev pub named_in : ℕ → ℕ → ℕ → Bool
named_in part set k = not (names part k) || names set k

module _ (part set i : ℕ) where
  -- item i + 1 is in the set, or not in the part
  pub named-next : part / 2 ^ i % 2 ≤ set / 2 ^ i % 2 → named_in part set (i + 1) ≡ true
  named-next le =
      ⊎_elim
      (λ (e : part / 2 ^ i % 2 ≡ 1). rw (names-bit part i, names-bit set i, eq-eqb (part / 2 ^ i % 2) 1 e) (eq-eqb (set / 2 ^ i % 2) 1 (omega arith)))
      (λ ne. rw (names-bit part i, ne_eqb (part / 2 ^ i % 2) 1 ne))
      (eq-or-ne (part / 2 ^ i % 2) 1)

  -- item i + 1 is in the part, and not in the set
  pub named-fails : set / 2 ^ i % 2 < part / 2 ^ i % 2 → named_in part set (i + 1) ≡ false
  named-fails lt = rw (names-bit part i, names-bit set i, eq-eqb (part / 2 ^ i % 2) 1 (omega arith), ne_eqb (set / 2 ^ i % 2) 1 (λ e. omega arith))

module _ (part set k : ℕ) where
  -- item k is in the set, or not in the part
  bits-named : part / 2 ^ (k - 1) % 2 ≤ set / 2 ^ (k - 1) % 2 → named_in part set k ≡ true
  bits-named le =
      ⊎_elim
      (λ (e : part / 2 ^ (k - 1) % 2 ≡ 1). rw (eq-eqb (part / 2 ^ (k - 1) % 2) 1 e) (eq-eqb (set / 2 ^ (k - 1) % 2) 1 (omega arith)))
      (λ ne. rw (ne_eqb (part / 2 ^ (k - 1) % 2) 1 ne))
      (eq-or-ne (part / 2 ^ (k - 1) % 2) 1)

  named-bits : named_in part set k ≡ true → part / 2 ^ (k - 1) % 2 ≤ set / 2 ^ (k - 1) % 2
  named-bits e =
      ⊎_elim
      (λ (lt : set / 2 ^ (k - 1) % 2 < part / 2 ^ (k - 1) % 2).
      let fails : named_in part set k ≡ false = rw (eq-eqb (part / 2 ^ (k - 1) % 2) 1 (omega arith), ne_eqb (set / 2 ^ (k - 1) % 2) 1 (λ e. omega arith)) in
      absurd (true≢false (sym e ∙ fails)))
      (λ le. le)
      (lt-or-ge (set / 2 ^ (k - 1) % 2) (part / 2 ^ (k - 1) % 2))

-- the set names each item of the part just where the bits that both have are those of the part
pub is_part-bits : (part set : ℕ) → part < 2 ^ set_bits → is_part part set ≡ eqb (bit_and part set) part
unfolding is_part
is_part-bits part set small = step (is_part part set) refl
  where
    same : all (named_in part set) (range 1 set_bits) ≡ true → bit_and part set ≡ part
    same named =
        same_from_bits_below set_bits (bit_and part set) part (omega (arith, and_le_l part set)) small
        (λ i low.
        let le = named-bits part set (i + 1) (all-mem (named_in part set) named (in-range 1 set_bits (i + 1) (omega arith) (omega arith))) in
        let place : i + 1 - 1 ≡ i = omega arith in
        let at : part / 2 ^ i % 2 ≤ set / 2 ^ i % 2 = rw place at le in
        bit_at_and part set i ∙ omega arith)

    named : bit_and part set ≡ part → all (named_in part set) (range 1 set_bits) ≡ true
    named e = mem-all (named_in part set) (range 1 set_bits) (λ k mk. bits-named part set k (omega (arith, bit_at_and part set (k - 1), ap (λ n. n / 2 ^ (k - 1) % 2) e)))

    step : (b : Bool) → is_part part set ≡ b → b ≡ eqb (bit_and part set) part
    step true e = sym (eq-eqb (bit_and part set) part (same e))
    step false e = sym (ne_eqb (bit_and part set) part (λ f. true≢false (sym (named f) ∙ e)))

module _ (part set : ℕ) where
  pub part-is_part : IsPart part set → is_part part set ≡ true
  unfolding is_part items_of
  part-is_part p = mem-all (named_in part set) (range 1 set_bits) each
    where
      each : (k : ℕ) → Mem k (range 1 set_bits) → named_in part set k ≡ true
      each k mk = step (names part k) refl
        where
          step : (b : Bool) → names part k ≡ b → not b || names set k ≡ true
          step true e = (filter-mem (names set) (range 1 set_bits) (sublist-mem p.some_items (mem-filter (names part) mk e))).1
          step false e = refl

  pub is_part-part : part < 2 ^ most_items → set < 2 ^ most_items → is_part part set ≡ true → IsPart part set
  unfolding is_part items_of
  is_part-part small-part small is =
      subst (λ k. IsPart k set) (set_of-items part most_items small-part (omega arith))
      (some-part set small (sublist-filter (names set) (filter-sublist (names part) (range 1 set_bits)) each))
    where
      each : (k : ℕ) → Mem k (items_of part) → names set k ≡ true
      each k mk =
          let both = filter-mem (names part) (range 1 set_bits) mk in
          step (names part k) both.1 (all-mem (named_in part set) is both.0)
        where
          step : (b : Bool) → b ≡ true → not b || names set k ≡ true → names set k ≡ true
          step true e f = f
          step false e f = absurd (true≢false (sym e))
