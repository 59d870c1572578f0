-- Demand 2 leaves nothing open: two divisions of a table that are as document 01 says have the same shares, cuts, cutters and bundles.
-- Assumes nothing.
use mathlib.Core.Path.{◌≡◌, refl, sym, ap₂, ◌∙◌}
use mathlib.Core.Bool.{Bool}
use mathlib.Core.List.Memᴰ.{head as here}
use mathlib.Core.List.Memᴰ.{not-nil}
use mathlib.Core.List.Memᴰ.{tail as there}
use mathlib.Core.List.{List, [], ◌∷◌, Memᴰ as Mem}
use Prim.Native.Nat.{ℕ, ◌+◌, ◌≤◌}
use native.Mathlib.Nat.{le_antisymm, le_of_eq}
use native.Mathlib.Omega.{arith}
use lib.ListN.{length}
use Rattle.lists.specs.Lists.{nth, elem}
use Rattle.lists.proofs.dictionary.Dictionary.{precedes-antisym}
use Rattle.lists.proofs.places.Places.{nth-next}
use Rattle.lists.proofs.places.Entries.{mem-place, same-at-places}
use Rattle.lists.proofs.members.Counting.{any-mem, counted-any}
use Rattle.lists.proofs.members.Distinct.{elem_mem}
use Rattle.sheet.specs.Contents.{Contents}
use Rattle.terms.specs.declared.Terms.{Terms}
use Rattle.rounds.specs.Round.{Instance, Round}
use Rattle.rounds.specs.Division.{Division}
use Rattle.rounds.specs.Documented.{ShareAndCut, values_left, TightSet, IsMatching, RoundAsDocumented, FollowOn, instance_in, DividedAsDocumented}

-- "The maximin share", and "the cut": there is one of each
module _ {n : ℕ} {values : List ℕ} {share share' : ℕ} {cut cut' : List ℕ} (s : ShareAndCut n values share cut) (s' : ShareAndCut n values share' cut') where
  one-share : share ≡ share'
  one-share = omega (arith, s.share_greatest cut' s'.cut_partition, s'.share_greatest cut s.cut_partition, s.cut_reaches, s'.cut_reaches)

  one-cut : cut ≡ cut'
  one-cut =
      precedes-antisym cut cut' (s.cut_first cut' s'.cut_partition (s'.cut_reaches ∙ sym one-share))
      (s'.cut_first cut s.cut_partition (s.cut_reaches ∙ one-share))

-- a round by its parts
abbrev made : List ℕ → List ℕ → ℕ → List ℕ → List (List ℕ) → List ℕ → List ℕ → Round
made agents items cutter served bundles waiting left =
    record { agents = agents; items = items; cutter = cutter; served = served; bundles = bundles; waiting = waiting; left = left }

-- a round of the same agents and items that is as documented is the same
module _ {G : Instance} {r r' : Round} (d : RoundAsDocumented G r) (d' : RoundAsDocumented G r') (agents : r.agents ≡ r'.agents) (items : r.items ≡ r'.items) where
  cutter : r.cutter ≡ r'.cutter
  cutter = le_antisymm (d.cutter_lowest r'.cutter (rw agents d'.cutter_left)) (d'.cutter_lowest r.cutter (rw (← agents) d.cutter_left))

  values : values_left G r ≡ values_left G r'
  values = rw (cutter, items)

  cut : d.cut ≡ d'.cut
  cut = one-cut d.cut_of_left (rw (← values, ← agents) at d'.cut_of_left)

  tight : (set : List ℕ) → TightSet G r d.cut set → TightSet G r' d'.cut set
  tight set t = rw (← agents, ← items, ← cutter, ← cut) t

  tight' : (set : List ℕ) → TightSet G r' d'.cut set → TightSet G r d.cut set
  tight' set t = rw (agents, items, cutter, cut) t

  waiting : r.waiting ≡ r'.waiting
  waiting =
      let no-shorter = d'.waiting_largest r.waiting (tight r.waiting d.waiting_tight) in
      let no_longer = d.waiting_largest r'.waiting (tight' r'.waiting d'.waiting_tight) in
      let same : length r.waiting ≡ length r'.waiting = le_antisymm no-shorter no_longer in
      precedes-antisym r.waiting r'.waiting (d.waiting_first r'.waiting (tight' r'.waiting d'.waiting_tight) same)
      (d'.waiting_first r.waiting (tight r.waiting d.waiting_tight) (sym same))

  served : r.served ≡ r'.served
  served = rw (d.served_others, d'.served_others, waiting, agents)

  serving : (chosen : List ℕ) → IsMatching G r d.cut chosen → IsMatching G r' d'.cut chosen
  serving chosen s = rw (← agents, ← items, ← waiting, ← served, ← cut) s

  serving' : (chosen : List ℕ) → IsMatching G r' d'.cut chosen → IsMatching G r d.cut chosen
  serving' chosen s = rw (agents, items, waiting, served, cut) s

  chosen : d.chosen ≡ d'.chosen
  chosen =
      precedes-antisym d.chosen d'.chosen (d.chosen_first d'.chosen (serving' d'.chosen d'.chosen_serves))
      (d'.chosen_first d.chosen (serving d.chosen d.chosen_serves))

  bundles : r.bundles ≡ r'.bundles
  bundles = rw (d.bundles_chosen, d'.bundles_chosen, items, cut, chosen)

  left : r.left ≡ r'.left
  left = rw (d.left_together, d'.left_together, items, cut, chosen)

  same_parts : made r.agents r.items r.cutter r.served r.bundles r.waiting r.left
      ≡ made r'.agents r'.items r'.cutter r'.served r'.bundles r'.waiting r'.left
  same_parts = rw (agents, items, cutter, served, bundles, waiting, left)

  one-round : r ≡ r'
  one-round = same_parts

-- rounds that follow on from the same agents and items and are as documented are the same
module _ {G : Instance} where
  one-list-of-rounds : (agents items : List ℕ) (rs rs' : List Round) → FollowOn agents items rs → FollowOn agents items rs'
      → ((r : Round) → Mem r rs → RoundAsDocumented G r) → ((r : Round) → Mem r rs' → RoundAsDocumented G r) → rs ≡ rs'
  one-list-of-rounds agents items [] [] f f' each each' = refl
  one-list-of-rounds agents items [] (r' ∷ rs') f f' each each' = absurd (not-nil (rw (f'.0 ∙ f) at (each' r' (here refl)).cutter_left))
  one-list-of-rounds agents items (r ∷ rs) [] f f' each each' = absurd (not-nil (rw (f.0 ∙ f') at (each r (here refl)).cutter_left))
  one-list-of-rounds agents items (r ∷ rs) (r' ∷ rs') f f' each each' =
      let same : r ≡ r' = one-round (each r (here refl)) (each' r' (here refl)) (f.0 ∙ sym f'.0) (f.1 ∙ sym f'.1) in
      ap₂ (λ x xs. x ∷ xs) same
      (one-list-of-rounds r.waiting r.left rs rs' f.2 (rw same f'.2) (λ q m. each q (there m)) (λ q m. each' q (there m)))

-- two divisions of a sheet by the same terms that are as documented
module _ {sheet : Contents} {terms : Terms} {d d' : Division} (a : DividedAsDocumented sheet terms d) (a' : DividedAsDocumented sheet terms d') where
  same-shares : d.shares ≡ d'.shares
  same-shares = same-at-places 0 sheet.agents d.shares d'.shares a.share_each a'.share_each (λ i lo hi. one-share (a.share_and_cut i lo hi) (a'.share_and_cut i lo hi))

  same-rounds : a.rounds ≡ a'.rounds
  same-rounds =
      one-list-of-rounds {G = instance_in sheet terms d} _ _ a.rounds a'.rounds a.rounds_follow_on a'.rounds_follow_on a.rounds_as_documented
      (λ r mr. rw same-shares (a'.rounds_as_documented r mr))

  -- the agent's bundle in a round that serves it
  same-bundle-in : (agent : ℕ) (r : Round) → Mem r a.rounds → Mem agent r.served → nth [] d.bundles agent ≡ nth [] d'.bundles agent
  same-bundle-in agent r mr ms =
      let (i, lt, is) = mem-place 0 agent r.served ms in
      let at : nth 0 r.served (i + 1) ≡ agent = nth-next 0 r.served i ∙ is in
      rw (← at) (a.bundles_of_rounds r mr (i + 1) (omega arith) (omega arith)
      ∙ sym (a'.bundles_of_rounds r (rw same-rounds at mr) (i + 1) (omega arith) (omega arith)))

  same-bundle : (agent : ℕ) → 1 ≤ agent → agent ≤ sheet.agents → nth [] d.bundles agent ≡ nth [] d'.bundles agent
  same-bundle agent lo hi =
      let serves : Round → Bool = λ r. elem agent r.served in
      let (r, mr, e) = any-mem serves a.rounds (counted-any serves a.rounds (le_of_eq (sym (a.served_once agent lo hi)))) in
      same-bundle-in agent r mr (elem_mem agent r.served e)

  pub one-division : (d.shares ≡ d'.shares) × (d.cuts ≡ d'.cuts) × (d.cutters ≡ d'.cutters) × (d.bundles ≡ d'.bundles)
  one-division = (
    same-shares,
    same-at-places [] sheet.agents d.cuts d'.cuts a.cut_each a'.cut_each (λ i lo hi. one-cut (a.share_and_cut i lo hi) (a'.share_and_cut i lo hi)),
    rw (a.cutters_of_rounds, a'.cutters_of_rounds, same-rounds),
    same-at-places [] sheet.agents d.bundles d'.bundles a.bundle_each a'.bundle_each same-bundle,
  )
