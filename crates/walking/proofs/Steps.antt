-- One step of the walk: its end, a branch that it leaves, and its branches one after the other. Assumes nothing.
use mathlib.Core.Path.{◌≡◌, sym, ap, ap₂, fun_ext, ◌∙◌}
use mathlib.Core.Bool.{true}
use mathlib.Core.Logic.{⊎_elim}
use mathlib.Core.List.{List, [], ◌∷◌, Memᴰ as Mem}
use Prim.Native.Nat.{ℕ, ◌+◌, ◌≤◌, ◌<◌, min, max}
use native.Mathlib.Nat.{add-zero}
use native.Mathlib.Numerals.{add-one}
use native.Mathlib.Omega.{arith}
use lib.ListN.{length, get_or, set, length-set}
use lib.Seq.{sets, get_or-set_same, get_or-set_other}
use Rattle.lists.specs.Lists.{range}
use Rattle.lists.specs.Sums.{least_of, total}
use Rattle.sheet.specs.Limits.{most_items, greatest_sum}
use Rattle.lists.specs.Dictionary.{branches}
use Rattle.lists.proofs.Cases.{eq-or-ne}
use Rattle.lists.proofs.places.Passing.{range-next}
use Rattle.lists.proofs.sums.LeastOf.{least_of-cong}
use Rattle.lists.proofs.dictionary.Listed.{branches-append}
use Rattle.growth.specs.Growth.{growth_from}
use Rattle.maximin.specs.Share.{bundle_value}
use Rattle.reach.specs.Loads.{load_of, least_loaded}
use Rattle.walk_steps.specs.Scan.{looked, searched, passing}
use Rattle.reach.specs.Pruning.{greatest_value, is_out_of_reach}
use Rattle.walking.specs.Walk.{Walkable, reached, walked}
use Rattle.walk_steps.specs.declared.Search.{Search}
use Rattle.walk_steps.proofs.Searched.{searched-append, searched-nil, searched-spent, searched-all, searched-idle, searched-branch}
use Rattle.walking.proofs.growth.Enough.{least_loaded-cons}
use Rattle.reach.proofs.pruning.OutOfReach.{is_out_of_reach-below-goal}
use Rattle.reach.proofs.loads.Stored.{loaded, loaded-stored}

module _ (bundles at used : ℕ) (loads partition : List ℕ) (ceiling : ℕ) (search : Search) where
  -- the allowance is spent
  pub walked-spent : (values : List ℕ) → search.allowance ≡ 0 → walked values bundles at used loads partition ceiling search ≡ search
  unfolding walked
  walked-spent values e =
      searched-spent (reached ceiling bundles loads values) (sets partition at) search (growth_from bundles used (length values)) e

  module _ (values : List ℕ) where
    -- where no growth partition reaches the goal, nothing is better, and all of them are passed over
    walked-below : ((l : List ℕ) → Mem l (growth_from bundles used (length values)) → reached ceiling bundles loads values l < search.best.goal)
        → walked values bundles at used loads partition ceiling search ≡ passing (length (growth_from bundles used (length values))) search
    unfolding walked
    walked-below = searched-idle (reached ceiling bundles loads values) (sets partition at) search (growth_from bundles used (length values))

    -- a goal that is out of reach
    pub walked-out-of-reach : (most : ℕ) → length values ≤ most_items → total values ≤ greatest_sum → greatest_value values ≤ most
        → is_out_of_reach ceiling search.best.goal (load_of loads) bundles values most ≡ true
        → walked values bundles at used loads partition ceiling search ≡ passing (length (growth_from bundles used (length values))) search
    walked-out-of-reach most few small greatest out =
        walked-below (λ l m. is_out_of_reach-below-goal search.best.goal (load_of loads) bundles values l ceiling most few small greatest out)

  -- all values are laid
  pub walked_end : 1 ≤ search.allowance → walked [] bundles at used loads partition ceiling search ≡ looked (min (least_of (load_of loads) bundles) ceiling) partition search
  unfolding walked
  walked_end some =
      let low : least_loaded bundles (load_of loads) [] [] ≡ least_of (load_of loads) bundles = least_of-cong (λ c. load_of loads c + 0) (load_of loads) bundles (λ c _ _. add-zero (load_of loads c)) in
      searched-all (reached ceiling bundles loads []) (sets partition at) search ([] ∷ []) some
      ∙ ap (λ v. looked (min v ceiling) partition search) low

  module _ (value : ℕ) (rest : List ℕ) where
    -- the search once the partitions that lay the next value on one of the bundles 1 .. bundle are tried
    abbrev pub walked_up_to : ℕ → Search
    walked_up_to bundle =
        searched (reached ceiling bundles loads (value ∷ rest)) (sets partition at) search
        (branches (λ c. growth_from bundles (max used c) (length rest)) (range 1 bundle))

    -- before the first bundle nothing is tried
    pub walked_up_to-none : walked_up_to 0 ≡ search
    walked_up_to-none = searched-nil (reached ceiling bundles loads (value ∷ rest)) (sets partition at) search

    -- a walk tries the bundles in use and the next new one
    pub walked_all : walked (value ∷ rest) bundles at used loads partition ceiling search ≡ walked_up_to (min (used + 1) bundles)
    unfolding walked
    walked_all = rw (add-one used)

    -- the growth partitions that lay the next value on bundle c
    abbrev pub next : ℕ → List (List ℕ)
    next c = growth_from bundles (max used c) (length rest)

    -- one bundle more: its growth partitions are searched after those of the bundles before
    pub walked_up_to-more : (bundle : ℕ) → walked_up_to (bundle + 1)
        ≡ searched (reached ceiling bundles loads (value ∷ rest)) (sets partition at) (walked_up_to bundle) (branches next ((bundle + 1) ∷ []))
    walked_up_to-more bundle =
        let reach = reached ceiling bundles loads (value ∷ rest) in
        ap (λ r. searched reach (sets partition at) search (branches next r)) (range-next bundle)
        ∙ ap (searched reach (sets partition at) search) (branches-append next (range 1 bundle) ((bundle + 1) ∷ []))
        ∙ searched-append reach (sets partition at) search (branches next (range 1 bundle)) (branches next ((bundle + 1) ∷ []))

    -- the loads once the next value is laid on a bundle
    stored : (bundle : ℕ) → bundle < length loads
        → (λ l. min (least_loaded bundles (loaded (load_of loads) (bundle + 1) value) rest l) ceiling) ≡ reached ceiling bundles (set loads bundle (get_or loads bundle 0 + value)) rest
    stored bundle inside =
        fun_ext (λ l. ap (λ v. min v ceiling) (least_of-cong _ _ bundles (λ d pos _. ap (λ x. x + bundle_value d rest l) (loaded-stored loads bundle value d inside pos))))

    -- one bundle more is a walk of its own
    pub walked_up_to-next : (bundle : ℕ) → bundle < length loads
        → walked_up_to (bundle + 1)
        ≡ walked rest bundles (at + 1) (max used (bundle + 1)) (set loads bundle (get_or loads bundle 0 + value)) (set partition at (bundle + 1)) ceiling (walked_up_to bundle)
    unfolding walked
    walked_up_to-next bundle inside =
        let c = bundle + 1 in
        let load = load_of loads in
        let reach = reached ceiling bundles loads (value ∷ rest) in
        let laid : ℕ → List ℕ → ℕ = λ d l. min (least_loaded bundles (loaded load d value) rest l) ceiling in
        let tried = walked_up_to bundle in
        walked_up_to-more bundle
        ∙ searched-branch reach laid (λ d l. ap (λ v. min v ceiling) (least_loaded-cons bundles load value rest d l)) (sets partition at) next tried c []
        ∙ searched-nil reach (sets partition at) (searched (laid c) (λ l. sets partition at (c ∷ l)) tried (next c))
        ∙ ap₂ (λ v k. searched v (sets (set partition at c) k) tried (next c)) (stored bundle inside) (sym (add-one at))

    -- the next value is laid
    pub walkable-next : Walkable (value ∷ rest) bundles at used loads → (bundle : ℕ) → bundle < min (used + 1) bundles → bundle < length loads
        → Walkable rest bundles (at + 1) (max used (bundle + 1)) (set loads bundle (get_or loads bundle 0 + value))
    walkable-next r bundle open-to inside =
        let m = get_or loads bundle 0 + value in
        record {
          few = omega (arith, r.few);
          some_bundles = r.some_bundles;
          few_bundles = r.few_bundles;
          opened = omega (arith, r.opened);
          places = length-set loads bundle m ∙ r.places;
          sums_bounded = λ i. ⊎_elim
              (λ (e : i ≡ bundle). rw (e, get_or-set_same loads bundle m 0 inside) (omega (arith, r.sums_bounded bundle)))
              (λ ne. rw (get_or-set_other loads bundle i m 0 ne) (omega (arith, r.sums_bounded i)))
              (eq-or-ne i bundle);
        }
