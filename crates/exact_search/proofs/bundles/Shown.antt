-- Bundles that are handed out are an exact division, and stand in their places in the answer. Assumes nothing.
use mathlib.Core.Path.{◌≡◌, refl, sym, ap, ap₂, subst, ◌∙◌}
use mathlib.Core.Bool.{true}
use mathlib.Core.Logic.{⊎_elim}
use mathlib.Core.List.Memᴰ.{head as here}
use mathlib.Core.List.Memᴰ.{tail as there}
use mathlib.Core.List.{List, [], ◌∷◌, ◌++◌, map, map-map, map-append, Memᴰ as Mem}
use mathlib.Core.List.Memᴰ
use mathlib.Core.List.Memᴰ.{cases_cons}
use mathlib.Core.List.Memᴰ.{not-nil}
use mathlib.Core.List.{Sublistᴰ as Sublist}
use Prim.Native.Nat.{ℕ, zero, suc, ◌+◌, ◌-◌, ◌^◌, ◌≤◌, ◌<◌}
use native.Mathlib.Omega.{arith}
use lib.ListN.{length, get_or, take, drop, length-map, length-take, take-append-drop}
use lib.Seq.{get_or-take}
use borrow.Author.Tests.{le-leb}
use Rattle.lists.specs.Lists.{range, nth, zeros, padded, Rising}
use Rattle.lists.specs.Sums.{total, sum_over}
use Rattle.lists.proofs.ranges.Ranges.{in-range, range-bounds}
use Rattle.lists.proofs.ranges.RangeSublists.{range-sublist-rising}
use Rattle.lists.proofs.members.Counting.{mem-all, sublist-mem}
use Rattle.lists.proofs.sums.InOneList.{in-one-list}
use Rattle.lists.proofs.sums.Sums.{total-append}
use Rattle.lists.proofs.places.Zeros.{drop-zero}
use Rattle.sheet.specs.Limits.{most_agents, most_items}
use Rattle.sheet.specs.Sets.{items_of, set_of}
use Rattle.sheet.specs.Valuations.{value}
use Rattle.sheet.specs.Tables.{valuation_of}
use Rattle.sheet.specs.Allocations.{Allocates}
use Rattle.sheet.specs.Contents.{sheet_of}
use Rattle.sheet.proofs.sets.Items.{set_of-items}
use Rattle.sheet.proofs.sets.Bundles.{nth-items}
use Rattle.shares.specs.Shares.{share_of}
use Rattle.exact_division.specs.Exact.{has_share, is_exact, ExactDivision}
use Rattle.exact_levels.specs.Parts.{IsPart}
use Rattle.exact_search.specs.internal.Handing.{HandedOut}
use Rattle.exact_search.proofs.bundles.Handing.{weight-none}

-- what holds in each of the first n places holds of each of the first n members
take-each : (Q : ℕ → Type 0) (xs : List ℕ) (n : ℕ) → n ≤ length xs → ((j : ℕ) → j < n → Q (get_or xs j 0)) → (x : ℕ) → Mem x (take n xs) → Q x
take-each Q xs zero room each x m = absurd (not-nil m)
take-each Q [] (suc n) room each x m = absurd (omega arith)
take-each Q (y ∷ xs) (suc n) room each x m =
    ⊎_elim
    (λ (e : x ≡ y). subst Q (sym e) (each 0 (omega arith)))
    (λ later. take-each Q xs n (omega arith) (λ j lt. each (suc j) (omega arith)) x later)
    (cases_cons m)

-- sets that name no item add nothing
weight-zeros : (w : ℕ → ℕ) (k : ℕ) → total (map (λ b. sum_over w (items_of b)) (zeros k)) ≡ 0
weight-zeros w zero = refl
weight-zeros w (suc k) = omega (arith, weight-none w, weight-zeros w k)

-- the set of the items of a set is the set
set_of-items-each : (sets : List ℕ) → ((b : ℕ) → Mem b sets → b < 2 ^ most_items) → map set_of (map items_of sets) ≡ sets
set_of-items-each [] small = refl
set_of-items-each (b ∷ sets) small =
    ap₂ ◌∷◌ (set_of-items b most_items (small b (here refl)) (omega arith)) (set_of-items-each sets (λ c mc. small c (there mc)))

module _ (n m : ℕ) (table : List (List ℕ)) (shares bundles : List ℕ) (all : ℕ) (few : n ≤ most_agents) (small : all < 2 ^ most_items) (all_items_summed : items_of all ≡ range 1 m)
    (own_shares : (agent : ℕ) → Mem agent (range 1 n) → nth 0 shares agent ≡ share_of (sheet_of n m table) agent)
    (out : HandedOut table shares n all bundles) where
  -- the sets of the agents in use
  abbrev sets : List ℕ
  sets = take n bundles

  -- the bundles that are shown
  abbrev pub shown : List (List ℕ)
  shown = map items_of sets

  places : length sets ≡ n
  places = length-take n bundles ∙ omega (arith, out.places)

  part_is : (b : ℕ) → Mem b sets → IsPart b all
  part_is = take-each (λ b. IsPart b all) bundles n (omega (arith, out.places)) out.parts

  of_items : (b : ℕ) → Mem b sets → Sublist (items_of b) (range 1 m)
  of_items b mb = subst (λ ks. Sublist (items_of b) ks) all_items_summed (part_is b mb).some_items

  rest-zeros : drop n bundles ≡ zeros (most_agents - n)
  rest-zeros = drop-zero bundles n (most_agents - n) (omega (arith, out.places)) out.zero_beyond

  all_shown : (w : ℕ → ℕ) → total (map (sum_over w) shown) ≡ sum_over w (range 1 m)
  all_shown w =
      let f : ℕ → ℕ = λ b. sum_over w (items_of b) in
      let parts : total (map f bundles) ≡ total (map f sets) + total (map f (drop n bundles)) =
      ap (λ l. total (map f l)) (sym (take-append-drop n bundles)) ∙ ap total (map-append f sets (drop n bundles)) ∙ total-append (map f sets) (map f (drop n bundles)) in
      omega (
        arith,
        ap total (map-map (sum_over w) items_of sets),
        parts,
        ap (λ l. total (map f l)) rest-zeros,
        weight-zeros w (most_agents - n),
        out.all_items_summed w,
        ap (sum_over w) all_items_summed,
      )

  shown-allocates : Allocates n m shown
  shown-allocates =
      record {
        bundle_each = length-map sets items_of ∙ places;
        item_in_one_bundle = λ k lo hi. in-one-list m shown all_shown k (in-range 1 m k lo (omega arith));
        no_other_item = λ b mb k mk.
            let (c, mc, e) = Memᴰ.of_map items_of sets mb in
            omega (arith, range-bounds 1 m (sublist-mem (of_items c mc) (subst (λ ks. Mem k ks) (sym e) mk)));
      }

  shown-rising : (b : List ℕ) → Mem b shown → Rising b
  shown-rising b mb = let (c, mc, e) = Memᴰ.of_map items_of sets mb in subst Rising e (range-sublist-rising m (of_items c mc))

  nth-shown : (agent : ℕ) → 1 ≤ agent → agent ≤ n → nth [] shown agent ≡ items_of (get_or bundles (agent - 1) 0)
  nth-shown agent some upto =
      let at : agent - 1 + 1 ≡ agent = omega arith in
      subst (λ a. nth [] shown a ≡ items_of (get_or sets (agent - 1) 0)) at (nth-items sets (agent - 1)) ∙ ap items_of (get_or-take n bundles (agent - 1) 0 (omega arith))

  shown-exact : is_exact (sheet_of n m table) shown ≡ true
  unfolding is_exact
  shown-exact =
      mem-all (λ agent. has_share (sheet_of n m table) agent (nth [] shown agent)) (range 1 n)
      (λ agent ma. let b = range-bounds 1 n ma in
      le-leb (share_of (sheet_of n m table) agent) (value (valuation_of table agent) (nth [] shown agent))
      (omega (arith, own_shares agent ma, out.reached (agent - 1) (omega arith), ap (value (valuation_of table agent)) (nth-shown agent b.0 (omega arith)))))

  pub shown-exact-division : ExactDivision (sheet_of n m table) shown
  shown-exact-division = record { allocates = shown-allocates; items_rise = shown-rising; shares_reached = shown-exact }

  -- the sets stand in their places, with 0 after the last
  pub shown-placed : bundles ≡ padded most_agents 0 (map set_of shown)
  shown-placed =
      let same : map set_of shown ≡ sets = set_of-items-each sets (λ b mb. omega (arith, (part_is b mb).below)) in
      sym (ap (padded most_agents 0) same ∙ ap (λ k. sets ++ zeros (most_agents - k)) places ∙ ap (λ l. sets ++ l) (sym rest-zeros) ∙ take-append-drop n bundles)
