-- The most that an agent can keep of a set, where one item more may be kept. Assumes nothing.
use mathlib.Core.Path.{◌≡◌, refl, sym, ap, ◌∙◌}
use mathlib.Core.Logic.{⊎_elim}
use mathlib.Core.List.{List}
use Prim.Native.Nat.{ℕ, ◌+◌, ◌-◌, ◌/◌, ◌%◌, ◌^◌, ◌≤◌, ◌<◌, max}
use native.Mathlib.Nat.{div-one, div-eq-sub-div, one-le-pow, add-zero}
use native.Mathlib.Omega.{arith}
use lib.ListN.{get_or}
use Rattle.lists.proofs.Cases.{lt-or-ge, eq-or-ne}
use Rattle.sheet.specs.Limits.{most_items}
use Rattle.sheet.specs.Sets.{items_of}
use Rattle.sheet.specs.Valuations.{value}
use Rattle.sheet.proofs.sets.Sets.{halved}
use Rattle.sheet.proofs.sets.Bits.{named-le}
use Rattle.sheet.proofs.valuing.SetValues.{value-item}
use Rattle.exact_levels.specs.Parts.{IsPart}
use Rattle.exact_levels.specs.internal.Keeping.{bonus_if, kept_of, IsMost}
use Rattle.exact_levels.proofs.sets.Parts.{part-refl, part-trans, part_without, part-named, without-named}
use Rattle.exact_levels.proofs.sets.Values.{value-split}

module _ (valuation levels : List ℕ) (before set : ℕ) (small : set < 2 ^ most_items) where
  -- nothing is kept yet
  pub most-none : (most : ℕ) → most ≡ bonus_if before (get_or levels set 0) → IsMost valuation levels before 0 set most
  unfolding items_of
  most-none most e =
      let none : set - set ≡ 0 = omega arith in
      let nothing : kept_of valuation levels before set set ≡ bonus_if before (get_or levels set 0) =
      ap (λ s. bonus_if before (get_or levels set 0) + value valuation (items_of s)) none ∙ add-zero (bonus_if before (get_or levels set 0)) in
      record {
        part = set;
        part_is = part-refl set;
        same_above = refl;
        reached = e ∙ sym nothing;
        greatest = λ other p same.
            let whole : other ≡ set = sym (div-one other) ∙ same ∙ div-one set in
            omega (arith, e, ap (kept_of valuation levels before set) whole, nothing);
      }

  module _ (k : ℕ) (low : k < most_items) where
    -- the bits above item k + 1, from those above item k
    above : (x : ℕ) → x / 2 ^ k / 2 ≡ x / 2 ^ (k + 1)
    above x = halved x k

    -- the set does not have the item
    pub most-left : (most : ℕ) → (set / 2 ^ k % 2 ≡ 1 → ⊥) → IsMost valuation levels before k set most → IsMost valuation levels before (k + 1) set most
    most-left most lacks m =
        record {
          part = m.part;
          part_is = m.part_is;
          same_above = sym (above m.part) ∙ ap (λ x. x / 2) m.same_above ∙ above set;
          reached = m.reached;
          greatest = λ other p same. m.greatest other p (lower other p same);
        }
      where
        lower : (other : ℕ) → IsPart other set → other / 2 ^ (k + 1) ≡ set / 2 ^ (k + 1) → other / 2 ^ k ≡ set / 2 ^ k
        lower other p same =
            ⊎_elim
            (λ (odd : other / 2 ^ k % 2 ≡ 1). absurd (lacks (part-named set k low p odd)))
            (λ even. omega (arith, above other, above set))
            (eq-or-ne (other / 2 ^ k % 2) 1)

    -- the set has the item
    module _ (named : set / 2 ^ k % 2 ≡ 1) where
      bit_le : 2 ^ k ≤ set
      bit_le = named-le set k named

      without : IsPart (set - 2 ^ k) set
      without = without-named set small k low named

      one_less : set / 2 ^ k ≡ (set - 2 ^ k) / 2 ^ k + 1
      one_less = div-eq-sub-div (one-le-pow k 2 (omega arith)) bit_le

      -- what is kept of the set, and of the set without the item
      kept-with : (part : ℕ) → IsPart part (set - 2 ^ k) → kept_of valuation levels before set part ≡ kept_of valuation levels before (set - 2 ^ k) part + get_or valuation k 0
      kept-with part p =
          let rest : set - (set - 2 ^ k) ≡ 2 ^ k = omega (arith, bit_le) in
          omega (
            arith,
            value-split valuation part set small (part-trans p without),
            value-split valuation part (set - 2 ^ k) (omega arith) p,
            value-split valuation (set - 2 ^ k) set small without,
            ap (λ s. value valuation (items_of s)) rest,
            value-item valuation k (omega arith),
          )

      pub most-with : (most less new : ℕ) → IsMost valuation levels before k set most → IsMost valuation levels before k (set - 2 ^ k) less → new ≡ max most (less + get_or valuation k 0)
          → IsMost valuation levels before (k + 1) set new
      most-with most less new m l e = ⊎_elim with_item without-item (lt-or-ge most (less + get_or valuation k 0))
        where
          greatest : (other : ℕ) → IsPart other set → other / 2 ^ (k + 1) ≡ set / 2 ^ (k + 1) → kept_of valuation levels before set other ≤ new
          greatest other p same =
              ⊎_elim
              (λ (odd : other / 2 ^ k % 2 ≡ 1). omega (arith, m.greatest other p (omega (arith, above other, above set))))
              (λ lacks. let q = part_without set small k low named lacks p in
              omega (arith, kept-with other q, l.greatest other q (omega (arith, above other, above set, one_less))))
              (eq-or-ne (other / 2 ^ k % 2) 1)

          without-item : less + get_or valuation k 0 ≤ most → IsMost valuation levels before (k + 1) set new
          without-item le =
              record {
                part = m.part;
                part_is = m.part_is;
                same_above = sym (above m.part) ∙ ap (λ x. x / 2) m.same_above ∙ above set;
                reached = omega (arith, m.reached);
                greatest = greatest;
              }

          with_item : most < less + get_or valuation k 0 → IsMost valuation levels before (k + 1) set new
          with_item lt =
              record {
                part = l.part;
                part_is = part-trans l.part_is without;
                same_above = omega (arith, above l.part, above set, l.same_above, one_less);
                reached = omega (arith, l.reached, kept-with l.part l.part_is);
                greatest = greatest;
              }
