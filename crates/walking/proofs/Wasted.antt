-- A bundle in use, not the first, that has the goal already is passed over: whatever the next value does there it does on bundle 1, which is
-- tried before. Assumes nothing.
use mathlib.Core.Path.{◌≡◌, ap, subst, ◌∙◌}
use mathlib.Core.Bool.{cond}
use mathlib.Core.Logic.{⊎_elim}
use mathlib.Core.List.Memᴰ.{eq_of_singleton as only}
use mathlib.Core.List.{List, [], ◌∷◌, map, append-nil, Memᴰ as Mem}
use Prim.Native.Nat.{ℕ, ◌+◌, ◌≤◌, ◌<◌, max}
use native.Mathlib.Omega.{arith}
use lib.ListN.{length, length-map}
use lib.Seq.{sets}
use borrow.Author.Tests.{ne_eqb}
use Rattle.lists.specs.Lists.{range}
use Rattle.lists.specs.Dictionary.{branches}
use Rattle.lists.proofs.Cases.{eq-or-ne, lt-or-ge}
use Rattle.lists.proofs.ranges.Ranges.{in-range}
use Rattle.lists.proofs.sums.LeastOf.{least_of-le, le-least_of}
use Rattle.lists.proofs.dictionary.Listed.{branch-of, in-branches}
use Rattle.growth.specs.Growth.{growth_from}
use Rattle.maximin.specs.Share.{bundle_value}
use Rattle.reach.specs.Loads.{load_of, least_loaded}
use Rattle.walk_steps.specs.Scan.{passing}
use Rattle.walking.specs.Walk.{reached}
use Rattle.walk_steps.specs.declared.Search.{Search}
use Rattle.walk_steps.proofs.Scan.{scan-covers}
use Rattle.walk_steps.proofs.Searched.{search_of, searched-spent, searched-all, searched-idle}
use Rattle.walking.proofs.Steps.{walked_up_to, walked_up_to-more, next as next_of}

module _ (bundles at used : ℕ) (loads partition : List ℕ) (ceiling : ℕ) (search : Search) (value : ℕ) (rest : List ℕ) where
  -- the least bundle of a partition that lays the next value too
  abbrev reach : List ℕ → ℕ
  reach = reached ceiling bundles loads (value ∷ rest)

  -- the growth partitions that lay it on bundle c
  abbrev next : ℕ → List (List ℕ)
  next = next_of bundles at used loads partition ceiling search value rest

  -- where a partition lays it on a bundle that has the goal, and reaches the goal, it does so too with the value on bundle 1
  reaches-on-first : (goal c : ℕ) (l : List ℕ) → 1 ≤ bundles → goal ≤ load_of loads c → goal ≤ reach (c ∷ l) → goal ≤ reach (1 ∷ l)
  reaches-on-first goal c l some has enough =
      let on-first : goal ≤ least_loaded bundles (load_of loads) (value ∷ rest) (1 ∷ l) =
      le-least_of (λ d. load_of loads d + bundle_value d (value ∷ rest) (1 ∷ l)) bundles goal some (λ d lo hi. ⊎_elim
      (λ (e : d ≡ c). rw e (omega (arith, has)))
      (λ ne. omega (
        arith,
        least_of-le (λ d. load_of loads d + bundle_value d (value ∷ rest) (c ∷ l)) bundles d lo hi,
        ap (λ b. cond b value 0) (ne_eqb d c ne),
      ))
      (eq-or-ne d c)) in
      omega arith

  module _ (bundle : ℕ) (later : 1 ≤ bundle) (in_use : bundle < used) (opened : used ≤ bundles) where
    -- the search so far, and what it has tried
    abbrev tried : Search
    tried = walked_up_to bundles at used loads partition ceiling search value rest bundle

    abbrev before : List (List ℕ)
    before = branches next (range 1 bundle)

    module _ (has : tried.best.goal ≤ load_of loads (bundle + 1)) where
      -- while some of the allowance is left, the partition with the value on bundle 1 was looked at, and the goal is above it
      below-goal : 1 ≤ tried.allowance → (l : List ℕ) → Mem l (branches next ((bundle + 1) ∷ [])) → reach l < tried.best.goal
      below-goal left l m =
          let b = branch-of next ((bundle + 1) ∷ []) m in
          let head : b.head ≡ bundle + 1 = only b.head_in in
          let same : max used b.head ≡ max used 1 = omega arith in
          let on-first = in-branches next (range 1 bundle) (in-range 1 bundle 1 (omega arith) (omega arith)) (subst (λ u. Mem b.rest (growth_from bundles u (length rest))) same b.rest_in) in
          let covered : reach (1 ∷ b.rest) < tried.best.goal =
          rw (ap (λ s. s.best.goal) (searched-all reach (sets partition at) search before (omega arith))) (scan-covers reach (sets partition at) search.best before on-first) in
          ⊎_elim
          (λ lt. lt)
          (λ enough. absurd (omega (
            arith,
            covered,
            reaches-on-first tried.best.goal (bundle + 1) b.rest (omega arith) has
                (subst (λ k. tried.best.goal ≤ reach k) (b.parts ∙ ap (λ d. d ∷ b.rest) head) enough),
          )))
          (lt-or-ge (reach l) tried.best.goal)

      -- so that the bundle changes nothing but the allowance
      pub walked_up_to-wasted : walked_up_to bundles at used loads partition ceiling search value rest (bundle + 1)
          ≡ passing (length (growth_from bundles (max used (bundle + 1)) (length rest))) tried
      walked_up_to-wasted =
          let c = bundle + 1 in
          walked_up_to-more bundles at used loads partition ceiling search value rest bundle
          ∙ ⊎_elim
          (λ spent. let none : tried.allowance ≡ 0 = omega arith in
          searched-spent reach (sets partition at) tried (branches next (c ∷ [])) none ∙ ap (search_of tried.best) (omega arith))
          (λ left. searched-idle reach (sets partition at) tried (branches next (c ∷ [])) (below-goal left)
          ∙ ap (λ k. passing k tried) (ap length (append-nil (map (λ l. c ∷ l) (next c))) ∙ length-map (next c) (λ l. c ∷ l)))
          (lt-or-ge tried.allowance 1)
