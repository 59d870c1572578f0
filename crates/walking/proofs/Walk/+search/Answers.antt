use mathlib.Core.Path.{◌≡◌, sym, ap, ap₂, subst, ◌∙◌}
use mathlib.Core.List.{List, [], ◌∷◌}
use Prim.Native.Nat.{ℕ, ◌+◌, ◌≤◌, min, max}
use native.Mathlib.Nat.{add-zero}
use native.Mathlib.Omega.{arith}
use lib.ListN.{length, get_or, set}
use lib.Seq.{set-set}
use Rattle.lists.proofs.places.Places.{nth-next}
use Rattle.lists.proofs.places.Stores.{store-back}
use Rattle.lists.proofs.places.Passing.{empty}
use Rattle.lists.proofs.sums.LeastOf.{least_of-le}
use Rattle.growth.specs.Growth.{growth_from}
use Rattle.lists.specs.Sums.{least_of}
use Rattle.sheet.specs.Limits.{most_agents, most_items, greatest_sum}
use Rattle.reach.specs.Loads.{load_of, limited_bundles}
use Rattle.reach.specs.Pruning.{greatest_value, GreatestFrom, is_out_of_reach}
use Rattle.walk_steps.specs.Scan.{looking, passing}
use Rattle.walk_steps.specs.Branches.{count_at}
use Rattle.walk_steps.proofs.Searched.{looking-some}
use Rattle.walk_steps.proofs.Branches.{wasted-bounds}
use Rattle.walking.specs.Walk.{Walkable, Counted, walked}
use Rattle.reach.proofs.pruning.Greatest.{greatest_from-next}
use Rattle.walking.proofs.Steps.{walked_up_to, walked-spent, walked-out-of-reach, walked_end, walked_all, walked_up_to-next, walkable-next}
use Rattle.walking.proofs.Wasted.{walked_up_to-wasted}
use Rattle.walking.proofs.Walk.+search.Goals as goal
use Rattle.walking.proofs.Walk.+search.Goals.{then-is_wasted, else-is_wasted}

-- the place of the table that is read holds the number of the growth partitions
counted : (counts : List (List ℕ)) (bundles most left used : ℕ) → Counted bundles most counts → most ≤ most_items → bundles ≤ most_agents → left ≤ most → used ≤ bundles
    → count_at counts (min left most_items) (min used most_agents) ≡ length (growth_from bundles used left)
counted counts bundles most left used each few few_bundles below in_use =
    let items : min left most_items ≡ left = omega arith in
    let bound : min used most_agents ≡ used = omega arith in
    ap₂ (count_at counts) items bound ∙ each left used below in_use

pub returns-then-search-eq0 : goal.returns-then-search-eq0
returns-then-search-eq0 t c =
    let a = c.args in
    sym (walked-spent a.self.now.bundles a.laid.now.at a.laid.now.used a.laid.now.loads a.laid.now.partition a.self.now.ceiling a.search a.values.now c.if-search-eq0.true)

pub returns-in_default : goal.returns-in_default
returns-in_default t c =
    let a = c.args in
    let r = c.requires.walkable in
    let none : a.values.now ≡ [] = empty a.values.now (omega (arith, c.in_default.ensures.cases)) in
    let all : limited_bundles a.self.now.bundles ≡ a.self.now.bundles = omega (arith, r.some_bundles, r.few_bundles) in
    let least = least_of (load_of a.laid.now.loads) a.self.now.bundles in
    let is-least : c.least-low.result ≡ least = c.least-low.ensures ∙ ap (least_of (load_of a.laid.now.loads)) all in
    let small : least ≤ greatest_sum = omega (arith, r.sums_bounded 0, least_of-le (load_of a.laid.now.loads) a.self.now.bundles 1 (omega arith) r.some_bundles) in
    let low : min (min c.least-low.result a.self.now.ceiling) greatest_sum ≡ min least a.self.now.ceiling = omega (arith, is-least) in
    let some : 1 ≤ a.search.allowance = omega (arith, c.if-search-eq0.false) in
    rw none
    (c.look.ensures
    ∙ ap (λ v. looking v a.laid.now.partition a.search) low
    ∙ looking-some (min least a.self.now.ceiling) a.laid.now.partition a.search some
    ∙ sym (walked_end a.self.now.bundles a.laid.now.at a.laid.now.used a.laid.now.loads a.laid.now.partition a.self.now.ceiling a.search some))

pub returns-then-is_out_of_reach : goal.returns-then-is_out_of_reach
returns-then-is_out_of_reach t c =
    let a = c.args in
    let values = a.values.now in
    let r = c.requires.walkable in
    let most = max 1 (get_or a.self.now.greatest a.laid.now.at 0) in
    let parts : values ≡ c.in-Some.value.now ∷ c.in-Some.rest.now = c.in-Some.ensures.cases.0 in
    let is-greatest : get_or a.self.now.greatest a.laid.now.at 0 ≡ greatest_value values =
    ap (λ k. get_or a.self.now.greatest k 0) (sym (add-zero a.laid.now.at)) ∙ c.requires.greatest 0 (omega (arith, ap length parts)) in
    let all : a.self.now.bundles ≡ min a.self.now.bundles most_agents = omega (arith, r.few_bundles) in
    c.pass.ensures
    ∙ ap (λ k. passing k a.search) (counted a.self.now.counts.now a.self.now.bundles (length values) (length values) a.laid.now.used c.requires.counted (omega (arith, r.few)) r.few_bundles (omega arith) r.opened)
    ∙ sym (walked-out-of-reach a.self.now.bundles a.laid.now.at a.laid.now.used a.laid.now.loads a.laid.now.partition a.self.now.ceiling a.search values most (omega (arith, r.few)) (omega (arith, r.sums_bounded 0)) (omega (arith, is-greatest))
    (ap (λ n. is_out_of_reach a.self.now.ceiling a.search.best.goal (load_of a.laid.now.loads) n values most) all ∙ sym c.is_out_of_reach.ensures ∙ c.if-is_out_of_reach.true))

pub search-found-requires : goal.search-found-requires
search-found-requires t c =
    let a = c.args in
    let values = a.values.now in
    let parts : values ≡ c.in-Some.value.now ∷ c.in-Some.rest.now = c.in-Some.ensures.cases.0 in
    let bundle = c.loop-bundle.bundle in
    let laid = walkable-next a.self.now.bundles a.laid.now.at a.laid.now.used a.laid.now.loads a.laid.now.partition a.self.now.ceiling a.search c.in-Some.value.now c.in-Some.rest.now
    (subst (λ values. Walkable values a.self.now.bundles a.laid.now.at a.laid.now.used a.laid.now.loads) parts c.requires.walkable) bundle (omega arith) (omega (arith, c.requires.walkable.few_bundles, c.requires.walkable.places)) in
    let known = c.loop-bundle.invariant in
    let stored : Walkable c.in-Some.rest.now a.self.now.bundles c.loop-bundle.next.at c.max.result (set c.loop-bundle.next.loads bundle (get_or a.laid.now.loads bundle 0 + c.in-Some.value.now)) =
    rw (known.next_item, c.max.ensures, known.same_loads) laid in
    let greatest = greatest_from-next a.laid.now.at c.in-Some.value.now c.in-Some.rest.now a.self.now.greatest (subst (λ values. GreatestFrom a.laid.now.at values a.self.now.greatest) parts c.requires.greatest) in (
      omega (arith, c.requires.walkable, ap length parts),
      (
        stored,
        (λ left used few in_use. c.requires.counted left used (omega (arith, ap length parts)) in_use, subst (λ at. GreatestFrom at c.in-Some.rest.now a.self.now.greatest) (sym known.next_item) greatest),
      ),
    )

pub loop-bundle-preserved : goal.loop-bundle-preserved
loop-bundle-preserved t c =
    let opened = c.max.ensures in
    let r = c.requires.walkable in
    let a = c.args in
    let values = a.values.now in
    let parts : values ≡ c.in-Some.value.now ∷ c.in-Some.rest.now = c.in-Some.ensures.cases.0 in
    let rest = c.in-Some.rest.now in
    let bundle = c.loop-bundle.bundle in
    let up_to = walked_up_to a.self.now.bundles a.laid.now.at a.laid.now.used a.laid.now.loads a.laid.now.partition a.self.now.ceiling a.search c.in-Some.value.now rest in
    let loads = a.laid.now.loads in
    let places = c.loop-bundle.next.partition in
    let found = c.loop-bundle.found in
    let known = c.loop-bundle.invariant in
    let in_use : max a.laid.now.used (bundle + 1) ≤ a.self.now.bundles = omega (arith, r.opened) in
    let few : length rest ≤ length values = omega (arith, ap length parts) in
    record {
      next_item = elim c.if-is_wasted.branch [ then-is_wasted w ↦ ap (λ n. n.at) w.next-is ∙ known.next_item | else-is_wasted w ↦ ap (λ n. n.at) w.next-is ∙ known.next_item ];
      same_loads = elim c.if-is_wasted.branch [
        | then-is_wasted w ↦ ap (λ n. n.loads) w.next-is ∙ known.same_loads
        | else-is_wasted w ↦ ap (λ n. n.loads) w.next-is ∙ ap (λ l. set (set l bundle (get_or loads bundle 0 + c.in-Some.value.now)) bundle (get_or loads bundle 0)) known.same_loads ∙ store-back loads bundle (get_or loads bundle 0 + c.in-Some.value.now) 0
      ];
      same_places = λ d. elim c.if-is_wasted.branch [
        | then-is_wasted w ↦ ap (λ n. set n.partition a.laid.now.at d) w.next-is ∙ known.same_places d
        | else-is_wasted w ↦ ap (λ n. set n.partition a.laid.now.at d) w.next-is ∙ set-set places a.laid.now.at (bundle + 1) d ∙ known.same_places d
      ];
      tried = elim c.if-is_wasted.branch [
        | then-is_wasted w ↦
            let wasted = wasted-bounds found.best.goal (get_or loads bundle 0) bundle a.laid.now.used (sym c.is_wasted.ensures ∙ w.if-is_wasted.true) in
            w.found-is
            ∙ w.pass-found.ensures
            ∙ ap (λ used. passing (count_at a.self.now.counts.now (min (length rest) most_items) (min used most_agents)) found) opened
            ∙ ap (λ count. passing count found) (counted a.self.now.counts.now a.self.now.bundles (length values) (length rest) (max a.laid.now.used (bundle + 1)) c.requires.counted (omega (arith, r.few)) r.few_bundles few in_use)
            ∙ ap (passing (length (growth_from a.self.now.bundles (max a.laid.now.used (bundle + 1)) (length rest)))) known.tried
            ∙ sym (walked_up_to-wasted a.self.now.bundles a.laid.now.at a.laid.now.used loads a.laid.now.partition a.self.now.ceiling a.search c.in-Some.value.now rest bundle wasted.0 wasted.1 r.opened
            (omega (arith, wasted.2, nth-next 0 loads bundle, ap (λ f. f.best.goal) known.tried)))
        | else-is_wasted w ↦ w.found-is
            ∙ rw (opened, known.tried, known.next_item) at w.search-found.ensures
            ∙ ap₂ (λ l places. walked rest a.self.now.bundles (a.laid.now.at + 1) (max a.laid.now.used (bundle + 1)) (set l bundle (get_or loads bundle 0 + c.in-Some.value.now)) places a.self.now.ceiling (up_to bundle)) known.same_loads (known.same_places (bundle + 1))
            ∙ sym (walked_up_to-next a.self.now.bundles a.laid.now.at a.laid.now.used loads a.laid.now.partition a.self.now.ceiling a.search c.in-Some.value.now rest bundle (omega (arith, r.few_bundles, r.places)))
      ];
    }

pub returns : goal.returns
returns t c =
    let a = c.args in
    let values = a.values.now in
    let parts : values ≡ c.in-Some.value.now ∷ c.in-Some.rest.now = c.in-Some.ensures.cases.0 in
    let all : c.loop-bundle.bundle ≡ min (a.laid.now.used + 1) a.self.now.bundles = omega (arith, c.open_bundles-bundle-end.ensures) in
    c.loop-bundle.invariant.tried
    ∙ ap (walked_up_to a.self.now.bundles a.laid.now.at a.laid.now.used a.laid.now.loads a.laid.now.partition a.self.now.ceiling a.search c.in-Some.value.now c.in-Some.rest.now) all
    ∙ sym (walked_all a.self.now.bundles a.laid.now.at a.laid.now.used a.laid.now.loads a.laid.now.partition a.self.now.ceiling a.search c.in-Some.value.now c.in-Some.rest.now)
    ∙ ap (λ values. walked values a.self.now.bundles a.laid.now.at a.laid.now.used a.laid.now.loads a.laid.now.partition a.self.now.ceiling a.search) (sym parts)
