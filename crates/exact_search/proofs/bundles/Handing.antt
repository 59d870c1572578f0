-- The bundles, from the last agent to the first: what is handed out so far, and what is left. Assumes nothing.
use mathlib.Core.Path.{◌≡◌, refl, sym, ap, subst, ◌∙◌}
use mathlib.Core.Logic.{⊎_elim}
use mathlib.Core.List.{List, [], map}
use Prim.Native.Nat.{ℕ, suc, ◌+◌, ◌-◌, ◌^◌, ◌≤◌, ◌<◌}
use native.Mathlib.Nat.{eq-or-lt_of_le}
use native.Mathlib.Omega.{arith}
use lib.ListN.{length, get_or, set as store, length-set}
use lib.Seq.{get_or-set_same, get_or-set_other}
use Rattle.lists.specs.Lists.{zeros}
use Rattle.lists.specs.Sums.{total, sum_over}
use Rattle.lists.proofs.places.Stores.{total-store}
use Rattle.lists.proofs.places.Zeros.{get_d-zeros}
use Rattle.sheet.specs.Limits.{most_agents, most_items}
use Rattle.sheet.specs.Sets.{items_of}
use Rattle.sheet.specs.Valuations.{value}
use Rattle.exact_levels.specs.Parts.{IsPart}
use Rattle.exact_levels.specs.ServedSets.{Leaves, Serves}
use Rattle.exact_search.specs.internal.Handing.{HandedOut}
use Rattle.exact_levels.proofs.sets.Parts.{part-refl, part-trans, Split, split}
use Rattle.exact_levels.proofs.sets.Values.{value-split}

-- the weight of no item
pub weight-none : (w : ℕ → ℕ) → sum_over w (items_of 0) ≡ 0
unfolding items_of
weight-none w = refl

module _ (table : List (List ℕ)) (shares : List ℕ) (agents all : ℕ) where
  -- the bundle of agent j + 1 is a part of all items and worth its share
  pub record Holds (j bundle : ℕ) : Type 0 where
    pub part : IsPart bundle all
    pub reached : get_or shares j 0 ≤ value (get_or table j []) (items_of bundle)

  -- the agents above agent i + 1 have their bundles, and the others can be served from what is left
  pub record Handing (bundles : List ℕ) (left i : ℕ) : Type 0 where
    pub within : i < agents
    pub serves : Serves table shares (suc i) left
    pub left_part : IsPart left all
    pub places : length bundles ≡ most_agents
    pub zero_before : (j : ℕ) → j ≤ i → get_or bundles j 0 ≡ 0
    pub zero_beyond : (j : ℕ) → agents ≤ j → get_or bundles j 0 ≡ 0
    pub all_items_summed : (w : ℕ → ℕ) → sum_over w (items_of left) + total (map (λ b. sum_over w (items_of b)) bundles) ≡ sum_over w (items_of all)
    pub holds : (j : ℕ) → i < j → j < agents → Holds j (get_or bundles j 0)

  pub handing-none : 1 ≤ agents → Serves table shares agents all → Handing (zeros most_agents) all (agents - 1)
  handing-none some serves =
      let last : agents ≡ suc (agents - 1) = omega arith in
      record {
        within = omega arith;
        serves = subst (λ k. Serves table shares k all) last serves;
        left_part = part-refl all;
        places = refl;
        zero_before = λ j le. get_d-zeros most_agents j;
        zero_beyond = λ j le. get_d-zeros most_agents j;
        all_items_summed = λ w. omega (arith, weight-none w);
        holds = λ j above below. absurd (omega arith);
      }

  module _ (few : agents ≤ most_agents) (small : all < 2 ^ most_items) (bundles : List ℕ) (left i : ℕ) (h : Handing bundles left i) where
    here-small : left < 2 ^ most_items
    here-small = omega (arith, h.left_part.below)

    room : i < length bundles
    room = omega (arith, h.within, h.places)

    -- a bundle in the agent's place
    module _ (bundle : ℕ) (own : Holds i bundle) where
      stored-holds : (j : ℕ) → i ≤ j → j < agents → Holds j (get_or (store bundles i bundle) j 0)
      stored-holds j le below =
          ⊎_elim
          (λ (e : i ≡ j). subst (λ k. Holds k (get_or (store bundles i bundle) k 0)) e (subst (Holds i) (sym (get_or-set_same bundles i bundle 0 room)) own))
          (λ (lt : i < j). subst (Holds j) (sym (get_or-set_other bundles i j bundle 0 (λ e. omega arith))) (h.holds j lt below))
          (eq-or-lt_of_le le)

      stored-beyond : (j : ℕ) → agents ≤ j → get_or (store bundles i bundle) j 0 ≡ 0
      stored-beyond j le = get_or-set_other bundles i j bundle 0 (λ e. omega (arith, h.within)) ∙ h.zero_beyond j le

      stored-sum : (w : ℕ → ℕ) → total (map (λ b. sum_over w (items_of b)) (store bundles i bundle)) ≡ total (map (λ b. sum_over w (items_of b)) bundles) + sum_over w (items_of bundle)
      stored-sum w =
          omega (
            arith,
            total-store (λ b. sum_over w (items_of b)) bundles i bundle room,
            ap (λ b. sum_over w (items_of b)) (h.zero_before i (omega arith)),
            weight-none w,
          )

    -- agent i + 1 keeps what it does not leave
    module _ (part : ℕ) (l : Leaves table shares (Serves table shares i) i left part) where
      halves : Split left here-small part
      halves = split left here-small l.part_is

      keeps : Holds i (left - part)
      keeps = record { part = part-trans halves.rest_part h.left_part; reached = l.reaches }

      pub handing-next : 0 < i → Handing (store bundles i (left - part)) part (i - 1)
      handing-next some =
          let lower : i ≡ suc (i - 1) = omega arith in
          record {
            within = omega (arith, h.within);
            serves = subst (λ k. Serves table shares k part) lower l.before;
            left_part = part-trans l.part_is h.left_part;
            places = simp length-set h.places;
            zero_before = λ j le. get_or-set_other bundles i j (left - part) 0 (λ e. omega arith) ∙ h.zero_before j (omega arith);
            zero_beyond = stored-beyond (left - part) keeps;
            all_items_summed = λ w. omega (arith, stored-sum (left - part) keeps w, halves.sums w, h.all_items_summed w);
            holds = λ j above below. stored-holds (left - part) keeps j (omega arith) below;
          }

  module _ (few : agents ≤ most_agents) (small : all < 2 ^ most_items) (bundles : List ℕ) (left : ℕ) (h : Handing bundles left 0) where
    -- the first agent keeps all that is left
    keeps-all : Holds 0 left
    keeps-all =
        let l = h.serves.1 in
        record { part = h.left_part; reached = omega (arith, l.reaches, value-split (get_or table 0 []) h.serves.0 left (omega (arith, h.left_part.below)) l.part_is) }

    pub handed_out : HandedOut table shares agents all (store bundles 0 left)
    handed_out =
        record {
          places = simp length-set h.places;
          zero_beyond = stored-beyond few small bundles left 0 h left keeps-all;
          all_items_summed = λ w. omega (arith, stored-sum few small bundles left 0 h left keeps-all w, h.all_items_summed w);
          parts = λ j below. (stored-holds few small bundles left 0 h left keeps-all j (omega arith) below).part;
          reached = λ j below. (stored-holds few small bundles left 0 h left keeps-all j (omega arith) below).reached;
        }
