-- The allocation from all agents and all items keeps the promise, so that no margin is below zero, and gives each item to one agent.
-- Assumes nothing.
use mathlib.Core.Path.{◌≡◌, sym, ap, ◌∙◌}
use mathlib.Core.Bool.{true}
use mathlib.Core.List.Memᴰ
use mathlib.Core.List.{List, [], map, map-map, Memᴰ as Mem}
use mathlib.Core.List.{Sublistᴰ as Sublist}
use Prim.Native.Nat.{ℕ, ◌*◌, ◌≤◌}
use native.Mathlib.Omega.{arith}
use lib.Dec.{leb}
use lib.ListN.{length, length-map}
use Rattle.lists.specs.Lists.{range, nth}
use Rattle.lists.specs.Sums.{total, sum_over}
use Rattle.lists.proofs.ranges.Ranges.{in-range, range-bounds, length-range, nth-map-range}
use Rattle.lists.proofs.members.Counting.{sublist-mem, mem-all}
use Rattle.lists.proofs.sums.InOneList.{in-one-list}
use Rattle.sheet.specs.Valuations.{value}
use Rattle.sheet.specs.Tables.{valuation_of, profile}
use Rattle.sheet.specs.Contents.{sheet_of}
use Rattle.sheet.specs.Allocations.{Allocates}
use Rattle.sheet.proofs.valuing.Tables.{value-profile}
use Rattle.shares.specs.Shares.{share_of}
use Rattle.shares.proofs.Profile.{nth-shares, share_of-profile}
use Rattle.terms.specs.declared.Terms.{Terms}
use Rattle.margins.specs.Margins.{none_negative}
use Rattle.grades.proofs.NoneNegative.{none_negative-own}
use Rattle.rounds.specs.Round.{Instance, items_suit, held}
use Rattle.rounds.specs.Division.{instance_of, all_rounds, allocation, allocation_assessment}
use Rattle.terms.specs.Allowed.{AtMostStandard}
use Rattle.rounds.proofs.round.Invariant.{Sound, left-all}
use Rattle.rounds.proofs.round.Rounds.{held-sublist, held-suits, held_all}

module _ (n m : ℕ) (terms : Terms) (table : List (List ℕ)) where
  -- the places in use of the table
  abbrev G : Instance
  G = instance_of n terms (profile n m table)

  abbrev holds : ℕ → List ℕ
  holds = held (all_rounds n m G)

  agents-enough : length (range 1 n) ≤ n
  agents-enough = omega (arith, length-range 1 n)

  pub length-allocation : length (allocation n m G) ≡ n
  length-allocation = length-map (range 1 n) holds ∙ length-range 1 n

  -- every bundle is a sub-list of the items, in rising order
  pub allocation-sublist : (bundle : List ℕ) → Mem bundle (allocation n m G) → Sublist bundle (range 1 m)
  allocation-sublist bundle mem =
      let (agent, i, e) = Memᴰ.of_map holds (range 1 n) mem in
      rw (← e) (held-sublist G n (range 1 n) (range 1 m) agent)

  module _ (allowed : AtMostStandard n terms) where
    pub sound : Sound n m G
    sound = record { allowed = allowed; own_shares = λ agent i. nth-shares n m table i ∙ sym (share_of-profile n m table i) }

    -- each agent holds a bundle that suits it
    holds-suiting : (agent : ℕ) → Mem agent (range 1 n) → items_suit G agent (nth [] (allocation n m G) agent) ≡ true
    holds-suiting agent i =
        rw (nth-map-range holds [] n i) (held-suits sound n (range 1 n) (range 1 m) agents-enough (left-all n m G) agent i)

    -- "every margin to be zero or more"
    pub allocation-none_negative : none_negative n (allocation_assessment n m G).margins ≡ true
    allocation-none_negative = none_negative-own n terms (profile n m table) (allocation n m G) G.shares ∙ mem-all _ (range 1 n) holds-suiting

    -- by the marks of the table each agent holds what it is promised
    pub holds-promised : (agent : ℕ) → Mem agent (range 1 n)
        → leb (terms.top * share_of (sheet_of n m table) agent) (terms.bottom * value (valuation_of table agent) (nth [] (allocation n m G) agent)) ≡ true
    holds-promised agent i =
        let of_items : Sublist (nth [] (allocation n m G) agent) (range 1 m) = rw (nth-map-range holds [] n i) (held-sublist G n (range 1 n) (range 1 m) agent) in
        rw (← nth-shares n m table i, ← value-profile n m table i of_items) (holds-suiting agent i)

    -- each item stands in exactly one bundle, and no bundle has any other item
    pub allocation-allocates : 1 ≤ n → Allocates n m (allocation n m G)
    allocation-allocates some =
        record {
          bundle_each = length-allocation;
          item_in_one_bundle = λ k lo hi. in-one-list m (allocation n m G) all_held k (in-range 1 m k lo (omega arith));
          no_other_item = λ bundle mem k mk. omega (arith, range-bounds 1 m (sublist-mem (allocation-sublist bundle mem) mk));
        }
      where
        all_held : (w : ℕ → ℕ) → total (map (sum_over w) (allocation n m G)) ≡ sum_over w (range 1 m)
        all_held w =
            ap total (map-map (sum_over w) holds (range 1 n))
            ∙ held_all sound w n (range 1 n) (range 1 m) (omega (arith, length-range 1 n)) agents-enough (left-all n m G)
