-- The first best of all partitions is the first best of the growth partitions. Assumes nothing.
use mathlib.Core.Path.{◌≡◌, refl, sym, ap, subst, fun_ext, ◌∙◌}
use mathlib.Core.Bool.{cond}
use mathlib.Core.Logic.{⊎_elim}
use mathlib.Core.List.{List, [], ◌∷◌, map, Memᴰ}
use Prim.Native.Nat.{ℕ, suc, ◌+◌, ◌-◌, ◌≤◌, ◌<◌, min, max}
use native.Mathlib.Nat.{add_assoc}
use native.Mathlib.Omega.{arith}
use lib.Dec.{eqb}
use lib.ListN.{length, length-map}
use borrow.Author.Tests.{ne_eqb}
use Rattle.lists.specs.Lists.{range, Within}
use Rattle.lists.specs.Dictionary.{branches}
use Rattle.lists.proofs.Cases.{lt-or-ge}
use Rattle.lists.proofs.ranges.Ranges.{range-append, in-range, range-bounds}
use Rattle.lists.proofs.dictionary.Listed.{branch-of, in-branches, branches-append}
use Rattle.lists.proofs.sums.LeastOf.{least_of-cong}
use Rattle.lists.proofs.sums.Exchange.{exchange, exchange-left, exchange-within}
use Rattle.growth.specs.Growth.{growth_from}
use Rattle.maximin.specs.Partitions.{partitions}
use Rattle.reach.specs.Loads.{least_loaded}
use Rattle.walk_steps.specs.Scan.{scan}
use Rattle.maximin.specs.Share.{bundle_value}
use Rattle.walk_steps.specs.declared.Best.{Best}
use Rattle.walk_steps.proofs.Scan.{scan-append, scan-map, scan-covers, scan-idle}
use Rattle.reach.proofs.loads.Stored.{loaded}
use Rattle.maximin.proofs.Partitions.{in-partitions, partition-within}
use Rattle.walking.proofs.growth.Exchange.{least_loaded-exchange}

-- the bundles above `used` are empty
abbrev pub EmptyAbove : (ℕ → ℕ) → ℕ → Type 0
EmptyAbove load used = (c : ℕ) → used < c → load c ≡ 0

empty_above-loaded : (load : ℕ → ℕ) (used c v : ℕ) → EmptyAbove load used → EmptyAbove (loaded load c v) (max used c)
empty_above-loaded load used c v above-empty d above = rw (ne_eqb d c (omega arith)) (omega (arith, above-empty d (omega arith)))

module _ (n : ℕ) (load : ℕ → ℕ) (v : ℕ) (values : List ℕ) where
  -- the least bundle of the partitions of v and the other values
  abbrev pub reach : List ℕ → ℕ
  reach = least_loaded n load (v ∷ values)

  -- the first value is laid
  pub least_loaded-cons : (c : ℕ) (l : List ℕ) → reach (c ∷ l) ≡ least_loaded n (loaded load c v) values l
  least_loaded-cons c l = least_of-cong _ _ n (λ d _ _. sym (add_assoc (load d) (cond (eqb d c) v 0) (bundle_value d values l)))

  -- the first branch is scanned, and then the others
  pub scan-branch : (h : List ℕ → List ℕ) (next : ℕ → List (List ℕ)) (b : Best) (c : ℕ) (cs : List ℕ)
      → scan reach h b (branches next (c ∷ cs))
      ≡ scan reach h (scan (least_loaded n (loaded load c v) values) (λ l. h (c ∷ l)) b (next c)) (branches next cs)
  scan-branch h next b c cs =
      scan-append reach h b (map (λ l. c ∷ l) (next c)) (branches next cs)
      ∙ ap (λ a. scan reach h a (branches next cs))
      (scan-map reach h (λ l. c ∷ l) b (next c) ∙ ap (λ f. scan f (λ l. h (c ∷ l)) b (next c)) (fun_ext (least_loaded-cons c)))

  -- branches that are scanned to the same best can take each other's place
  scan-branches : (h : List ℕ → List ℕ) (f g : ℕ → List (List ℕ)) (b : Best) (cs : List ℕ)
      → ((c : ℕ) (k : List ℕ → List ℕ) (a : Best) → scan (least_loaded n (loaded load c v) values) k a (f c) ≡ scan (least_loaded n (loaded load c v) values) k a (g c))
      → scan reach h b (branches f cs) ≡ scan reach h b (branches g cs)
  scan-branches h f g b [] same = refl
  scan-branches h f g b (c ∷ cs) same =
      scan-branch h f b c cs
      ∙ ap (λ a. scan reach h a (branches f cs)) (same c (λ l. h (c ∷ l)) b)
      ∙ scan-branches h f g (scan (least_loaded n (loaded load c v) values) (λ l. h (c ∷ l)) b (g c)) cs same
      ∙ sym (scan-branch h g b c cs)

  module _ (used : ℕ) (above-empty : EmptyAbove load used) where
    -- what may follow the bundle of the first value: any partition of the others
    abbrev all_next : ℕ → List (List ℕ)
    all_next c = partitions n (length values)

    -- a partition that begins with a bundle above the next new one is worth as much as one that begins with the next new one
    equal-among-early : {l : List ℕ} (i j : ℕ) → suc used < i → Memᴰ l (branches all_next (range i j)) → i + j ≤ suc n
        → (x : List ℕ) × Memᴰ x (branches all_next (range 1 (suc used))) × (reach l ≡ reach x)
    equal-among-early {l} i j above mem fits =
        let b = branch-of all_next (range i j) mem in
        let c = b.head in
        let r = range-bounds i j b.head_in in
        let w = partition-within n (length values) b.rest_in in
        let t = map (exchange c (suc used)) b.rest in
        let within : Within n t = exchange-within c (suc used) n (omega arith) (omega arith) (omega arith) (omega arith) b.rest w.0 in
        let len : length t ≡ length values = length-map b.rest (exchange c (suc used)) ∙ w.1 in (
          suc used ∷ t,
          in-branches all_next (range 1 (suc used)) (in-range 1 (suc used) (suc used) (omega arith) (omega arith)) (subst (λ k. Memᴰ t (partitions n k)) len (in-partitions n t within)),
          ap reach b.parts
              ∙ sym (least_loaded-exchange c (suc used) n (omega arith) (omega arith) (omega arith) (omega arith) load (above-empty c (omega arith) ∙ sym (above-empty (suc used) (omega arith))) (v ∷ values) (c ∷ b.rest))
              ∙ ap (λ d. reach (d ∷ t)) (exchange-left c (suc used)),
        )

    -- the branches above the next new bundle come too late to be the first best
    scan-late-idle : (h : List ℕ → List ℕ) (b : Best) → suc used < n
        → scan reach h b (branches all_next (range 1 n)) ≡ scan reach h b (branches all_next (range 1 (suc used)))
    scan-late-idle h b lt =
        let rest = n - suc used in
        let all-bundles : n ≡ suc used + rest = omega arith in
        let early = branches all_next (range 1 (suc used)) in
        let late = branches all_next (range (1 + suc used) rest) in
        ap (λ k. scan reach h b (branches all_next (range 1 k))) all-bundles
        ∙ ap (λ r. scan reach h b (branches all_next r)) (range-append 1 (suc used) rest)
        ∙ ap (scan reach h b) (branches-append all_next (range 1 (suc used)) (range (1 + suc used) rest))
        ∙ scan-append reach h b early late
        ∙ scan-idle reach h (scan reach h b early) late
        (λ x mem. let (y, my, same) = equal-among-early (1 + suc used) rest (omega arith) mem (omega arith) in omega (arith, same, scan-covers reach h b early my))

    scan-skips-late : (h : List ℕ → List ℕ) (b : Best) → scan reach h b (branches all_next (range 1 n)) ≡ scan reach h b (branches all_next (range 1 (min (suc used) n)))
    scan-skips-late h b =
        ⊎_elim
        (λ lt. let e : suc used ≡ min (suc used) n = omega arith in scan-late-idle h b lt ∙ ap (λ k. scan reach h b (branches all_next (range 1 k))) e)
        (λ ge. let e : n ≡ min (suc used) n = omega arith in ap (λ k. scan reach h b (branches all_next (range 1 k))) e)
        (lt-or-ge (suc used) n)

-- growth partitions are enough, from any loads
pub scan-growth : (n used : ℕ) (values : List ℕ) (load : ℕ → ℕ) (h : List ℕ → List ℕ) (b : Best) → EmptyAbove load used
    → scan (least_loaded n load values) h b (partitions n (length values)) ≡ scan (least_loaded n load values) h b (growth_from n used (length values))
scan-growth n used [] load h b above-empty = refl
scan-growth n used (v ∷ values) load h b above-empty =
    scan-skips-late n load v values used above-empty h b
    ∙ scan-branches n load v values h (λ _. partitions n (length values)) (λ c. growth_from n (max used c) (length values)) b (range 1 (min (suc used) n))
    (λ c k a. scan-growth n (max used c) values (loaded load c v) k a (empty_above-loaded load used c v above-empty))
