-- A walk from empty bundles: where it may start, and what it ends at. Assumes nothing.
use mathlib.Core.Path.{◌≡◌, ap, fun_ext, ◌∙◌}
use mathlib.Core.List.{List, Memᴰ as Mem}
use Prim.Native.Nat.{ℕ, ◌+◌, ◌-◌, ◌≤◌}
use native.Mathlib.Omega.{arith}
use lib.ListN.{length}
use lib.Seq.{sets}
use Rattle.lists.specs.Lists.{zeros}
use Rattle.lists.specs.Dictionary.{greatest, first_best}
use Rattle.lists.proofs.places.Zeros.{get_d-zeros}
use Rattle.lists.proofs.places.Padding.{sets-blank}
use Rattle.lists.proofs.places.Fronts.{take-mem, take-inhabited}
use Rattle.lists.proofs.sums.LeastOf.{least_of-cong}
use Rattle.lists.proofs.dictionary.First.{le-greatest, first_best-reaches}
use Rattle.sheet.specs.Limits.{most_agents, most_items}
use Rattle.growth.specs.Growth.{growth_partitions, growths}
use Rattle.growth.proofs.Listed.{listed-grows, growth-inhabited}
use Rattle.maximin.specs.Share.{bundle_value, least_bundle, maximin_share, maximin_partition}
use Rattle.cut.specs.Outcome.{looked_at, placed}
use Rattle.reach.specs.Loads.{load_of, least_loaded}
use Rattle.walk_steps.specs.Scan.{searched}
use Rattle.walking.specs.Walk.{reached, start, walked, finding}
use Rattle.walking.proofs.Limits.{limits-searchable}
use Rattle.cut.specs.internal.Allowed.{Allowed}
use Rattle.walk_steps.specs.declared.Search.{Search}
use Rattle.cut.proofs.Allowance.{greatest-growth, greatest-looked-at, first_best-looked-at}
use Rattle.walk_steps.proofs.Scan.{scan-best, scan-goal}
use Rattle.walk_steps.proofs.Searched.{search_of, searched-all, searched-cong}

module _ (n : ℕ) (values : List ℕ) (allowance : ℕ) where
  -- the best least bundle of the growth partitions looked at, and the first partition that reaches it
  abbrev pub best_least : ℕ
  best_least = greatest (least_bundle n values) (looked_at n values allowance)

  abbrev pub best_partition : List ℕ
  best_partition = first_best (least_bundle n values) (looked_at n values allowance)

  -- a least bundle and its partition as the walk keeps them, with what is left of the allowance
  abbrev pub found_with : ℕ → List ℕ → Search
  found_with least partition = search_of (record { goal = least + 1; partition = placed partition }) (allowance - growths n (length values))

  least_loaded-empty : least_loaded n (load_of (zeros most_agents)) values ≡ least_bundle n values
  least_loaded-empty =
      fun_ext (λ l. least_of-cong (λ c. load_of (zeros most_agents) c + bundle_value c values l) (λ c. bundle_value c values l) n (λ c _ _. omega (arith, get_d-zeros most_agents (c - 1))))

  module _ (ceiling goal : ℕ) (a : Allowed values n allowance) (under : maximin_share n values ≤ ceiling) where
    -- the least bundle of a growth partition is no greater than the ceiling
    reached-least : (l : List ℕ) → Mem l (growth_partitions n (length values)) → reached ceiling n (zeros most_agents) values l ≡ least_bundle n values l
    reached-least l m = omega (
      arith,
      ap (λ v. v l) least_loaded-empty,
      le-greatest (least_bundle n values) (growth_partitions n (length values)) m,
      greatest-growth n values a.some_bundles,
    )

    -- it searches the growth partitions of the values
    finding-searched : finding values n ceiling goal allowance ≡ searched (least_bundle n values) (sets (zeros most_items) 0) (start goal allowance) (growth_partitions n (length values))
    unfolding finding walked
    finding-searched =
        rw (limits-searchable values n (record { some_bundles = a.some_bundles; few_bundles = a.few_bundles; few = a.few; small = a.small }))
        (searched-cong (reached ceiling n (zeros most_agents) values) (least_bundle n values) (sets (zeros most_items) 0) (start goal allowance) (growth_partitions n (length values)) reached-least)

    -- and ends at the first best of those that its allowance reaches, where these reach the goal
    pub finding-best : goal ≤ best_least → finding values n ceiling goal allowance ≡ found_with best_least best_partition
    unfolding growths
    finding-best reached =
        let f = least_bundle n values in
        let all = growth_partitions n (length values) in
        let ls = looked_at n values allowance in
        let (l, m) = take-inhabited allowance all a.some_allowance (growth-inhabited n 0 (length values) a.some_bundles) in
        let inside = take-mem allowance all (first_best-reaches f ls m).0 in
        finding-searched
        ∙ ap (λ b. search_of b (allowance - length all)) (scan-best f (sets (zeros most_items) 0) (start goal allowance).best ls m reached)
        ∙ ap (λ l. search_of (record { goal = best_least + 1; partition = l }) (allowance - length all))
        (sets-blank most_items 0 best_partition (omega (arith, (listed-grows n 0 (length values) inside).1, a.few)))

    module _ (enough : growths n (length values) ≤ allowance) where
      -- with an allowance that is enough, at the share and the cut, where the share reaches the goal
      pub finding-share : goal ≤ maximin_share n values → finding values n ceiling goal allowance ≡ found_with (maximin_share n values) (maximin_partition n values)
      finding-share reached =
          finding-best (omega (arith, greatest-looked-at n values allowance a.some_bundles enough))
          ∙ ap (λ least. found_with least best_partition) (greatest-looked-at n values allowance a.some_bundles enough)
          ∙ ap (found_with (maximin_share n values)) (first_best-looked-at n values allowance a.some_bundles enough)

      -- with the goal above the share in any case, where it starts no higher
      pub finding-goal : 1 ≤ goal → goal ≤ maximin_share n values + 1 → (finding values n ceiling goal allowance).best.goal ≡ maximin_share n values + 1
      unfolding growths
      finding-goal positive low =
          let all = growth_partitions n (length values) in
          let f = least_bundle n values in
          ap (λ s. s.best.goal) (finding-searched ∙ searched-all f (sets (zeros most_items) 0) (start goal allowance) all enough)
          ∙ scan-goal f (sets (zeros most_items) 0) (start goal allowance).best all positive
          ∙ omega (arith, greatest-growth n values a.some_bundles)
