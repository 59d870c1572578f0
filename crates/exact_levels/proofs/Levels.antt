-- The levels of the definition tell how many of the first agents can be served, and no other numbers do. Assumes nothing.
use mathlib.Core.Path.{◌≡◌, refl, sym, ap, subst, ◌∙◌}
use mathlib.Core.Bool.{true, ◌&&◌, and-eq-true_iff}
use mathlib.Core.Logic.{⊎_elim}
use mathlib.Core.List.{List, [], map}
use Prim.Native.Nat.{ℕ, zero, suc, ◌+◌, ◌-◌, ◌^◌, ◌≤◌, ◌<◌}
use native.Mathlib.Nat.{add-zero, zero-add, pow-le-pow_right}
use native.Mathlib.Omega.{arith}
use lib.Dec.{leb}
use lib.ListN.{length, get_or, length-map, get_or-append}
use lib.Seq.{ext_get_or, get_or-append-add}
use borrow.Author.Tests.{le-leb, leb-true}
use Rattle.lists.specs.Lists.{range, zeros}
use Rattle.lists.proofs.Cases.{lt-or-ge}
use Rattle.lists.proofs.ranges.Ranges.{in-range, range-bounds, length-range}
use Rattle.lists.proofs.members.Counting.{mem-any, any-mem}
use Rattle.lists.proofs.places.Padding.{length-padded}
use Rattle.lists.proofs.places.Zeros.{get_d-zeros}
use Rattle.sheet.specs.Limits.{most_items}
use Rattle.sheet.specs.Sets.{items_of}
use Rattle.sheet.specs.Valuations.{value}
use Rattle.exact_levels.specs.Parts.{is_part}
use Rattle.exact_levels.specs.ServedSets.{Serves, RankedAt, Ranked}
use Rattle.exact_levels.specs.Levels.{may_leave_part, can_serve, level_of, levels_of}
use Rattle.exact_levels.proofs.sets.Named.{part-is_part, is_part-part}
use Rattle.exact_levels.proofs.kept.Served.{ranked-none, ranked-tried}

-- what a function makes of the numbers from i on, place by place
get_d-map-range : (f : ℕ → ℕ) (d i n k : ℕ) → k < n → get_or (map f (range i n)) k d ≡ f (i + k)
get_d-map-range f d i zero k lt = absurd (omega arith)
get_d-map-range f d i (suc n) zero lt = ap f (sym (add-zero i))
get_d-map-range f d i (suc n) (suc k) lt = get_d-map-range f d (suc i) n k (omega arith) ∙ ap f (omega arith)

module _ (table : List (List ℕ)) (shares : List ℕ) where
  -- the test and the statement say the same
  pub serves-can : (i set : ℕ) → Serves table shares i set → can_serve table shares i set ≡ true
  unfolding can_serve
  serves-can zero set s = refl
  serves-can (suc i) set (part, l) =
      mem-any (may_leave_part table shares (can_serve table shares i) i set) (in-range 0 (set + 1) part (omega arith) (omega (arith, l.part_is.below)))
      (rw (part-is_part part set l.part_is, serves-can i part l.before, le-leb (get_or shares i 0) (value (get_or table i []) (items_of (set - part))) l.reaches))

  pub can-serves : (i set : ℕ) → set < 2 ^ most_items → can_serve table shares i set ≡ true → Serves table shares i set
  unfolding can_serve
  can-serves zero set small e = tt
  can-serves (suc i) set small e =
      let (part, m, left) = any-mem (may_leave_part table shares (can_serve table shares i) i set) (range 0 (set + 1)) e in
      let bounds = range-bounds 0 (set + 1) m in
      let reaches = leb (get_or shares i 0) (value (get_or table i []) (items_of (set - part))) in
      let first = (and-eq-true_iff (is_part part set) (can_serve table shares i part && reaches)).0 left in
      let others = (and-eq-true_iff (can_serve table shares i part) reaches).0 first.1 in (
        part,
        record {
          part_is = is_part-part part set (omega arith) small first.0;
          before = can-serves i part (omega arith) others.0;
          reaches = leb-true (get_or shares i 0) (value (get_or table i []) (items_of (set - part))) others.1;
        },
      )

  -- the level of the definition tells how many of the first agents can be served
  pub level-ranked : (i set : ℕ) → set < 2 ^ most_items → RankedAt table shares i set (level_of table shares i set)
  unfolding level_of
  level-ranked zero set small = ranked-none table shares set
  level-ranked (suc i) set small =
      ranked-tried table shares i set (level_of table shares i set) (can_serve table shares (suc i) set) small (level-ranked i set small)
      (can-serves (suc i) set small, serves-can (suc i) set)

  -- so does no other number
  pub ranked-same : {i set a b : ℕ} → RankedAt table shares i set a → RankedAt table shares i set b → a ≡ b
  ranked-same {i} {set} {a} {b} ra rb =
      omega (arith, ra.few, rb.few, (rb.served a ra.few).1 ((ra.served a ra.few).0 (omega arith)), (ra.served b rb.few).1 ((rb.served b rb.few).0 (omega arith)))

  module _ (n m : ℕ) (few_items : m ≤ most_items) where
    few-sets : 2 ^ m ≤ 2 ^ most_items
    few-sets = pow-le-pow_right {n = 2} (omega arith) few_items

    abbrev listed : List ℕ
    listed = map (level_of table shares n) (range 0 (2 ^ m))

    length-listed : length listed ≡ 2 ^ m
    length-listed = length-map (range 0 (2 ^ m)) (level_of table shares n) ∙ length-range 0 (2 ^ m)

    -- the level of a set of the first m items
    pub level-at : (set : ℕ) → set < 2 ^ m → get_or (levels_of table shares n m) set 0 ≡ level_of table shares n set
    unfolding levels_of
    level-at set lt =
        get_or-append listed (zeros (2 ^ most_items - length listed)) 0 set (omega (arith, length-listed))
        ∙ get_d-map-range (level_of table shares n) 0 0 (2 ^ m) set lt
        ∙ ap (level_of table shares n) (zero-add set)

    -- there is none for any other set
    level-beyond : (set : ℕ) → 2 ^ m ≤ set → get_or (levels_of table shares n m) set 0 ≡ 0
    unfolding levels_of
    level-beyond set ge =
        let rest = set - length listed in
        let place : set ≡ length listed + rest = omega (arith, length-listed) in
        ap (λ k. get_or (levels_of table shares n m) k 0) place
        ∙ get_or-append-add listed (zeros (2 ^ most_items - length listed)) rest 0
        ∙ get_d-zeros (2 ^ most_items - length listed) rest

    -- numbers that tell how many of the first agents can be served are the levels of the definition
    pub levels-are : (all : ℕ) (levels : List ℕ) → all + 1 ≡ 2 ^ m → length levels ≡ 2 ^ most_items → Ranked table shares n all levels
        → ((set : ℕ) → all + 1 ≤ set → get_or levels set 0 ≡ 0) → levels ≡ levels_of table shares n m
    unfolding levels_of
    levels-are all levels all_sets places ranked beyond = ext_get_or 0 levels (levels_of table shares n m) (places ∙ sym length-levels) (λ set lt. at set)
      where
        length-levels : length (levels_of table shares n m) ≡ 2 ^ most_items
        length-levels = length-padded (2 ^ most_items) 0 listed (omega (arith, length-listed, few-sets))

        at : (set : ℕ) → get_or levels set 0 ≡ get_or (levels_of table shares n m) set 0
        at set =
            ⊎_elim
            (λ lt. ranked-same (ranked set (omega arith)) (level-ranked n set (omega (arith, few-sets))) ∙ sym (level-at set lt))
            (λ ge. beyond set (omega arith) ∙ sym (level-beyond set ge))
            (lt-or-ge set (2 ^ m))

    -- and these tell it
    pub levels-ranked : (all : ℕ) → all + 1 ≡ 2 ^ m → Ranked table shares n all (levels_of table shares n m)
    levels-ranked all all_sets set upto = subst (RankedAt table shares n set) (sym (level-at set (omega arith))) (level-ranked n set (omega (arith, few-sets)))
