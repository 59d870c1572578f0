-- One round's matching exists: where every bundle suits the cutter, all agents that do not wait are served. Assumes nothing.
use mathlib.Core.Path.{◌≡◌, refl, sym, ap, ◌∙◌}
use mathlib.Core.Bool.{Bool, true, false, not, true≢false}
use mathlib.Core.List.Memᴰ
use mathlib.Core.List.{List, Memᴰ as Mem}
use mathlib.Core.List.Sublistᴰ.{trans as sublist-trans}
use mathlib.Core.List.{Sublistᴰ as Sublist}
use Prim.Native.Nat.{ℕ, ◌+◌, ◌≤◌, ◌<◌}
use native.Mathlib.Omega.{arith, by_contra}
use lib.Dec.{eqb}
use lib.ListN.{length}
use borrow.Author.Tests.{eq-eqb, ne_eqb}
use Rattle.lists.specs.Lists.{bit, reject, elem, distinct}
use Rattle.lists.proofs.members.Counting.{mem-any, mem-filter, reject-mem, reject-sublist, sublist-mem, sublist-filter, length-sublist, length-reject, bit-any, count-sublist, count-le-reject, count-all, count-true, count_none}
use Rattle.lists.proofs.ranges.Ranges.{length-range}
use Rattle.lists.proofs.ranges.Sublists.{UnionMeet, union-meet}
use Rattle.lists.proofs.members.Distinct.{mem-elem, elem_mem, not-mem-elem, submultiset-distinct, submultiset-mem, count-elem, distinct-covers, range-distinct}
use Rattle.matching.specs.Matching.{without, wanted, neighbours, Matched, bundle_numbers, waiting_of, served_of, free_of, chosen_of}
use Rattle.matching.proofs.Waiting.{LargestTight, waiting_set-largest}
use Rattle.matching.proofs.Matching.{suited-length, matching-matched}
use Rattle.matching.proofs.Hall.{HallCondition, hall}

module _ (suits : ℕ → ℕ → Bool) (cutter : ℕ) (agents : List ℕ) where
  abbrev others : List ℕ
  others = without cutter agents

  abbrev is_waiting : ℕ → Bool
  is_waiting agent = elem agent (waiting_of suits cutter agents)

  pub waiting_of-largest : LargestTight suits others (bundle_numbers agents) (waiting_of suits cutter agents)
  waiting_of-largest = waiting_set-largest suits _ _

  pub waiting-sublist : Sublist (waiting_of suits cutter agents) agents
  waiting-sublist = sublist-trans waiting_of-largest.sublist (reject-sublist (eqb cutter) agents)

  pub waiting-fewer : Mem cutter agents → length (waiting_of suits cutter agents) < length agents
  waiting-fewer left = omega (
    arith,
    length-sublist waiting_of-largest.sublist,
    length-reject (eqb cutter) agents,
    bit-any (eqb cutter) agents,
    ap bit (mem-elem left),
  )

  -- "The other yards, the cutter among them"
  pub cutter_served : Mem cutter agents → Mem cutter (served_of suits cutter agents)
  cutter_served left = mem-filter (λ a. not (is_waiting a)) left (ap not (not-mem-elem cutter (waiting_of suits cutter agents) not-waiting))
    where
      not-waiting : Mem cutter (waiting_of suits cutter agents) → ⊥
      not-waiting m =
          true≢false (sym (eq-eqb cutter cutter refl)
          ∙ (reject-mem (eqb cutter) agents (sublist-mem waiting_of-largest.sublist m)).1)

  served-waiting-le : length (served_of suits cutter agents) + length (waiting_of suits cutter agents) ≤ length agents
  served-waiting-le = omega (
    arith,
    length-reject is_waiting agents,
    count-sublist waiting-sublist is_waiting,
    count-all is_waiting (waiting_of suits cutter agents) (λ agent m. mem-elem m),
  )

  pub served-or-waiting : distinct agents ≡ true → length (served_of suits cutter agents) + length (waiting_of suits cutter agents) ≡ length agents
  served-or-waiting d = omega (arith, served-waiting-le, length-reject is_waiting agents, count-elem (waiting_of suits cutter agents) agents d)

  -- a bundle that is handed out suits no agent that waits
  pub free-unsuited : (agent bundle : ℕ) → Mem agent (waiting_of suits cutter agents) → Mem bundle (free_of suits cutter agents) → suits agent bundle ≡ false
  free-unsuited agent bundle m f = step (suits agent bundle) refl
    where
      step : (b : Bool) → suits agent bundle ≡ b → suits agent bundle ≡ false
      step true e = absurd (true≢false (sym (mem-any (λ a. suits a bundle) m e) ∙ (reject-mem (wanted suits (waiting_of suits cutter agents)) (bundle_numbers agents) f).1))
      step false e = e

  -- without the cutter: a set with too few free neighbours would make a larger waiting set
  others-condition : HallCondition suits (reject is_waiting others) (free_of suits cutter agents)
  others-condition zs s = by_contra (length zs) (neighbours suits zs (free_of suits cutter agents)) too_few
    where
      u : UnionMeet (waiting_of suits cutter agents) zs others
      u = union-meet waiting_of-largest.sublist (sublist-trans s (reject-sublist is_waiting others))

      disjoint : length u.meet ≡ 0
      disjoint = omega (
        arith,
        count-all is_waiting u.meet (λ agent m. mem-elem (submultiset-mem u.meet (waiting_of suits cutter agents) u.left agent m)),
        u.right is_waiting,
        count-sublist s is_waiting,
        count_none is_waiting (reject is_waiting others) (λ agent m. (reject-mem is_waiting others m).1),
      )

      sizes : length u.union ≡ length (waiting_of suits cutter agents) + length zs
      sizes = omega (arith, disjoint, u.total (λ a. true), count-true u.union, count-true u.meet, count-true (waiting_of suits cutter agents), count-true zs)

      outside : neighbours suits u.union (bundle_numbers agents) ≤ neighbours suits (waiting_of suits cutter agents) (bundle_numbers agents) + neighbours suits zs (free_of suits cutter agents)
      outside = count-le-reject (wanted suits u.union) (wanted suits (waiting_of suits cutter agents)) (wanted suits zs)
          (λ b. omega (arith, bit-any (λ a. suits a b) u.union, bit-any (λ a. suits a b) (waiting_of suits cutter agents), bit-any (λ a. suits a b) zs, u.total (λ a. suits a b))) (bundle_numbers agents)

      too_few : neighbours suits zs (free_of suits cutter agents) < length zs → ⊥
      too_few lt = omega (arith, sizes, waiting_of-largest.largest u.union u.union_sub (omega (arith, outside, sizes, waiting_of-largest.bound)))

  module _ (suits-cutter : (bundle : ℕ) → Mem bundle (bundle_numbers agents) → suits cutter bundle ≡ true) where
    -- with the cutter: every free bundle is a neighbour
    cutter-condition : (zs : List ℕ) → Sublist zs (served_of suits cutter agents) → Mem cutter zs → length zs ≤ neighbours suits zs (free_of suits cutter agents)
    cutter-condition zs s m = omega (
      arith,
      length-range 1 (length agents),
      length-sublist s,
      served-waiting-le,
      waiting_of-largest.bound,
      length-reject (wanted suits (waiting_of suits cutter agents)) (bundle_numbers agents),
      count-all (wanted suits zs) (free_of suits cutter agents) (λ b f. mem-any (λ a. suits a b) m (suits-cutter b (reject-mem (wanted suits (waiting_of suits cutter agents)) (bundle_numbers agents) f).0)),
    )

    -- agents served without the cutter are others that do not wait
    other-served : (zs : List ℕ) → Sublist zs (served_of suits cutter agents) → elem cutter zs ≡ false → Sublist zs (reject is_waiting others)
    other-served zs s out =
        sublist-filter (λ a. not (is_waiting a))
        (sublist-filter (λ a. not (eqb cutter a)) (sublist-trans s (reject-sublist is_waiting agents)) not-cutter)
        (λ a m. ap not (reject-mem is_waiting agents (sublist-mem s m)).1)
      where
        not-cutter : (a : ℕ) → Mem a zs → not (eqb cutter a) ≡ true
        not-cutter a m = ap not (ne_eqb cutter a (λ e. true≢false (sym (mem-elem (Memᴰ.cast e m)) ∙ out)))

    served-condition : HallCondition suits (served_of suits cutter agents) (free_of suits cutter agents)
    served-condition zs s = step (elem cutter zs) refl
      where
        step : (b : Bool) → elem cutter zs ≡ b → length zs ≤ neighbours suits zs (free_of suits cutter agents)
        step true e = cutter-condition zs s (elem_mem cutter zs e)
        step false e = others-condition zs (other-served zs s e)

    -- all agents that do not wait are served
    pub served-matched : Matched suits (served_of suits cutter agents) (free_of suits cutter agents) (chosen_of suits cutter agents)
    served-matched =
        let free-distinct = submultiset-distinct (free_of suits cutter agents) (bundle_numbers agents) (count-sublist (reject-sublist (wanted suits (waiting_of suits cutter agents)) (bundle_numbers agents))) (range-distinct 1 (length agents)) in
        let (chosen, s) = hall suits (served_of suits cutter agents) (free_of suits cutter agents) free-distinct served-condition in
        matching-matched suits (served_of suits cutter agents) (free_of suits cutter agents) chosen s

    -- where no agent waits, every bundle is handed out
    pub none-waiting-all-handed : distinct agents ≡ true → length (waiting_of suits cutter agents) ≡ 0 → (bundle : ℕ) → Mem bundle (bundle_numbers agents) → Mem bundle (chosen_of suits cutter agents)
    none-waiting-all-handed d none =
        let s = served-matched in
        let chosen = chosen_of suits cutter agents in
        distinct-covers chosen (bundle_numbers agents) s.injective (λ b m. (reject-mem (wanted suits (waiting_of suits cutter agents)) (bundle_numbers agents) (s.from_bundles b m)).0)
        (omega (arith, length-range 1 (length agents), served-or-waiting d, suited-length suits (served_of suits cutter agents) chosen s.suits_each))
