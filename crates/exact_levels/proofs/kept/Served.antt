-- The sets from which the first agents can be served, and the levels that tell so. Assumes nothing.
use mathlib.Core.Path.{◌≡◌, refl, sym, ap, subst, ◌∙◌}
use mathlib.Core.Bool.{Bool, true, false, cond, false≢true}
use mathlib.Core.Logic.{◌↔◌, ⊎_elim}
use mathlib.Core.List.{List, []}
use Prim.Native.Nat.{ℕ, zero, suc, ◌+◌, ◌-◌, ◌/◌, ◌^◌, ◌≤◌, ◌<◌}
use native.Mathlib.Nat.{eq-or-lt_of_le, div-eq_of_lt, pow-le-pow_right}
use native.Mathlib.Omega.{arith}
use lib.Dec.{leb}
use lib.ListN.{get_or}
use borrow.Author.Tests.{leb-true, le-leb}
use Rattle.sheet.specs.Limits.{most_items, greatest_sum}
use Rattle.sheet.specs.Sets.{items_of}
use Rattle.sheet.specs.Valuations.{value}
use Rattle.exact_levels.specs.Parts.{IsPart}
use Rattle.exact_levels.specs.internal.Keeping.{served_bonus, kept_of, RaisedAt}
use Rattle.exact_levels.specs.ServedSets.{Serves, RankedAt, Ranked}
use Rattle.exact_levels.proofs.sets.Parts.{part-trans}
use Rattle.exact_levels.proofs.sets.Values.{value-split}

module _ (table : List (List ℕ)) (shares : List ℕ) where
  -- who can be served from a part can be served from the set
  pub serves_more : (i part set : ℕ) → set < 2 ^ most_items → IsPart part set → Serves table shares i part → Serves table shares i set
  serves_more zero part set small p s = tt
  serves_more (suc i) part set small p (left, l) =
      let row = get_or table i [] in (
        left,
        record {
          part_is = part-trans l.part_is p;
          before = l.before;
          reaches = omega (
            arith,
            l.reaches,
            value-split row part set small p,
            value-split row left part (omega (arith, p.below)) l.part_is,
            value-split row left set small (part-trans l.part_is p),
          );
        },
      )

  -- where some agents can be served, fewer can
  pub serves-fewer : (i j set : ℕ) → set < 2 ^ most_items → j ≤ i → Serves table shares i set → Serves table shares j set
  serves-fewer zero zero set small le s = tt
  serves-fewer zero (suc j) set small le s = absurd (omega arith)
  serves-fewer (suc i) j set small le s =
      ⊎_elim
      (λ (e : j ≡ suc i). subst (λ k. Serves table shares k set) (sym e) s)
      (λ lt. serves-fewer i j set small (omega arith) (serves_more i s.0 set small s.1.part_is s.1.before))
      (eq-or-lt_of_le le)

  -- nobody is served yet
  pub ranked-none : (set : ℕ) → RankedAt table shares 0 set 0
  ranked-none set = record { few = omega arith; served = none }
    where
      none : (j : ℕ) → j ≤ 0 → (j ≤ 0) ↔ Serves table shares j set
      none zero le = (λ _. tt, λ _. omega arith)
      none (suc j) le = absurd (omega arith)

  -- the level once agent i + 1 is tried, by a test that tells whether it can be served behind those before
  pub ranked-tried : (i set level : ℕ) (b : Bool) → set < 2 ^ most_items → RankedAt table shares i set level → (b ≡ true) ↔ Serves table shares (suc i) set
      → RankedAt table shares (suc i) set (cond b (i + 1) level)
  ranked-tried i set level true small old told =
      record { few = omega arith; served = λ j le. (λ _. serves-fewer (suc i) j set small le (told.0 refl), λ _. omega arith) }
  ranked-tried i set level false small old told = record { few = omega (arith, old.few); served = served }
    where
      served : (j : ℕ) → j ≤ suc i → (j ≤ level) ↔ Serves table shares j set
      served j le =
          ⊎_elim
          (λ (same : j ≡ suc i). (
            λ above. absurd (omega (arith, old.few)),
            λ s. absurd (false≢true (told.1 (subst (λ k. Serves table shares k set) same s))),
          ))
          (λ lt. old.served j (omega arith))
          (eq-or-lt_of_le le)

  module _ (i items all : ℕ) (levels : List ℕ) (ranked : Ranked table shares i all levels) (few_items : items ≤ most_items) (all_sets : all + 1 ≡ 2 ^ items)
      (light : (set : ℕ) → value (get_or table i []) (items_of set) ≤ greatest_sum) (set level : ℕ) (upto : set ≤ all)
      (raised : RaisedAt (get_or table i []) (get_or shares i 0) levels i items set level) where
    abbrev row : List ℕ
    row = get_or table i []

    abbrev share : ℕ
    share = get_or shares i 0

    abbrev most : ℕ
    most = raised.most

    small : set < 2 ^ most_items
    small = omega (arith, pow-le-pow_right {n = 2} (omega arith) few_items)

    -- the part left is one from which those before can be served
    reached-serves : served_bonus + share ≤ most → Serves table shares (suc i) set
    reached-serves enough = step (leb i (get_or levels raised.is_most.part 0)) refl raised.is_most.reached
      where
        part : ℕ
        part = raised.is_most.part

        step : (b : Bool) → leb i (get_or levels part 0) ≡ b → most ≡ cond b served_bonus 0 + value row (items_of (set - part)) → Serves table shares (suc i) set
        step false e kept = absurd (omega (arith, light (set - part)))
        step true e kept =
            let p = raised.is_most.part_is in (
              part,
              record {
                part_is = p;
                before = ((ranked part (omega (arith, p.below))).served i (omega arith)).0 (leb-true i (get_or levels part 0) e);
                reaches = omega arith;
              },
            )

    -- whoever leaves a part keeps no more than the most
    serves-reached : Serves table shares (suc i) set → served_bonus + share ≤ most
    serves-reached (part, l) =
        let served : i ≤ get_or levels part 0 = ((ranked part (omega (arith, l.part_is.below))).served i (omega arith)).1 l.before in
        let kept : kept_of row levels i set part ≡ served_bonus + value row (items_of (set - part)) =
        ap (λ b. cond b served_bonus 0 + value row (items_of (set - part))) (le-leb i (get_or levels part 0) served) in
        let none : (x : ℕ) → x ≤ all → x / 2 ^ items ≡ 0 = λ x le. div-eq_of_lt (omega arith) in
        omega (arith, raised.is_most.greatest part l.part_is (none part (omega (arith, l.part_is.below)) ∙ sym (none set upto)), kept, l.reaches)

    -- the level once agent i + 1 is tried
    pub ranked-next : RankedAt table shares (suc i) set level
    ranked-next =
        let enough = leb (served_bonus + share) most in
        let told : (enough ≡ true) ↔ Serves table shares (suc i) set =
        (λ e. reached-serves (leb-true (served_bonus + share) most e), λ s. le-leb (served_bonus + share) most (serves-reached s)) in
        subst (RankedAt table shares (suc i) set) (sym raised.raised) (ranked-tried i set (get_or levels set 0) enough small (ranked set upto) told)
