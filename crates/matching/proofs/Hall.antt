-- Hall's theorem: where every set of agents has at least as many neighbours as members, all agents can be matched. Assumes nothing.
use mathlib.Core.Path.{◌≡◌, refl, ap}
use mathlib.Core.Bool.{Bool, true, false, ◌||◌}
use mathlib.Core.List.{List, [], ◌∷◌}
use mathlib.Core.List.Sublistᴰ.{cons as skip}
use mathlib.Core.List.Sublistᴰ.{cons-cons as keep}
use mathlib.Core.List.{Sublistᴰ as Sublist}
use Prim.Native.Nat.{ℕ, ◌+◌, ◌≤◌, ◌<◌}
use native.Mathlib.Omega.{arith, by_contra}
use lib.ListN.{length}
use Rattle.lists.specs.Lists.{bit, distinct}
use Rattle.lists.proofs.members.Counting.{Submultiset, Witness, bit-any, count-add-le, count-lt, count-true}
use Rattle.lists.proofs.ranges.Sublists.{UnionMeet, union-meet}
use Rattle.lists.proofs.members.Distinct.{submultiset-distinct, submultiset-mem}
use Rattle.matching.specs.Matching.{wanted, neighbours, waiting_set, suited, Matched}
use Rattle.matching.proofs.Waiting.{LargestTight, waiting_set-largest}

or_left : (a b : Bool) → a || b ≡ true → b ≡ false → a ≡ true
or_left true b p q = refl
or_left false b p q = cc

module _ (suits : ℕ → ℕ → Bool) where
  abbrev suited_by : ℕ → ℕ → Bool
  suited_by bundle agent = suits agent bundle

  -- the neighbours of the union and of the intersection are together at most those of the two
  neighbours-union : {ys zs xs : List ℕ} (u : UnionMeet ys zs xs) (bundles : List ℕ)
      → neighbours suits u.union bundles + neighbours suits u.meet bundles ≤ neighbours suits ys bundles + neighbours suits zs bundles
  neighbours-union {ys} {zs} u bundles = count-add-le (wanted suits u.union) (wanted suits u.meet) (wanted suits ys) (wanted suits zs) at-bundle bundles
    where
      at-bundle : (p : ℕ) → bit (wanted suits u.union p) + bit (wanted suits u.meet p) ≤ bit (wanted suits ys p) + bit (wanted suits zs p)
      at-bundle p = omega (
        arith,
        bit-any (suited_by p) u.union,
        bit-any (suited_by p) u.meet,
        bit-any (suited_by p) ys,
        bit-any (suited_by p) zs,
        u.total (suited_by p),
        u.left (suited_by p),
        u.right (suited_by p),
      )

  neighbours-mono : (ys zs : List ℕ) → Submultiset ys zs → (bundles : List ℕ) → neighbours suits ys bundles ≤ neighbours suits zs bundles
  neighbours-mono ys zs sub bundles = omega (
    arith,
    count-add-le (wanted suits ys) (λ p. false) (wanted suits zs) (λ p. false)
        (λ p. omega (arith, bit-any (suited_by p) ys, bit-any (suited_by p) zs, sub (suited_by p))) bundles,
  )

  -- every sub-list of the agents has at least as many neighbours as members
  abbrev pub HallCondition : List ℕ → List ℕ → Type 0
  HallCondition agents bundles = (zs : List ℕ) → Sublist zs agents → length zs ≤ neighbours suits zs bundles

  -- the condition outlives the loss of a bundle that suits no agent of the largest tight sub-list
  rest-condition : (agent : ℕ) (agents bundles : List ℕ) → HallCondition (agent ∷ agents) bundles
      → (w : Witness (wanted suits (waiting_set suits agents bundles)) (wanted suits (agent ∷ waiting_set suits agents bundles)) bundles) → HallCondition agents w.rest
  rest-condition agent agents bundles condition w zs s = by_contra (length zs) (neighbours suits zs w.rest) too_few
    where
      set : List ℕ
      set = waiting_set suits agents bundles

      t : LargestTight suits agents bundles set
      t = waiting_set-largest suits agents bundles

      u : UnionMeet zs set agents
      u = union-meet s t.sublist

      sizes : length u.union + length u.meet ≡ length zs + length set
      sizes = omega (arith, u.total (λ y. true), count-true u.union, count-true u.meet, count-true zs, count-true set)

      same_set : neighbours suits set bundles ≡ neighbours suits set w.rest
      same_set = omega (arith, w.counts (wanted suits set), ap bit w.fails)

      same-meet : neighbours suits u.meet bundles ≡ neighbours suits u.meet w.rest
      same-meet = omega (
        arith,
        w.counts (wanted suits u.meet),
        ap bit w.fails,
        bit-any (suited_by w.witness) u.meet,
        bit-any (suited_by w.witness) set,
        u.right (suited_by w.witness),
      )

      more : neighbours suits set w.rest ≤ neighbours suits u.union w.rest
      more = neighbours-mono set u.union (λ f. omega (arith, u.total f, u.left f)) w.rest

      too_few : neighbours suits zs w.rest < length zs → ⊥
      too_few lt =
          let few : neighbours suits u.union w.rest < length u.union = omega (
            arith,
            sizes,
            same_set,
            same-meet,
            t.bound,
            neighbours-union u w.rest,
            condition u.meet (skip u.meet_sub),
          ) in
          omega (
            arith,
            same_set,
            more,
            condition set (skip t.sublist),
            t.largest u.union u.union_sub (omega (arith, w.counts (wanted suits u.union), bit-any (suited_by w.witness) u.union)),
          )

  -- a bundle for each agent that suits it, none taken more often than the list has it
  record Choice (agents bundles : List ℕ) : Type 0 where
    chosen : List ℕ
    suits_each : suited suits agents chosen ≡ true
    within : Submultiset chosen bundles

  choice : (agents bundles : List ℕ) → HallCondition agents bundles → Choice agents bundles
  choice [] bundles condition = record { chosen = []; suits_each = refl; within = omega arith }
  choice (agent ∷ agents) bundles condition =
      let set = waiting_set suits agents bundles in
      let t = waiting_set-largest suits agents bundles in
      let w = count-lt (wanted suits set) (wanted suits (agent ∷ set)) bundles (omega (arith, condition (agent ∷ set) (keep refl t.sublist), t.bound)) in
      let m = choice agents w.rest (rest-condition agent agents bundles condition w) in
      record {
        chosen = w.witness ∷ m.chosen;
        suits_each = rw (or_left (suits agent w.witness) (wanted suits set w.witness) w.passes w.fails) m.suits_each;
        within = λ f. omega (arith, w.counts f, m.within f);
      }

  -- Hall's theorem
  pub hall : (agents bundles : List ℕ) → distinct bundles ≡ true → HallCondition agents bundles → (chosen : List ℕ) × Matched suits agents bundles chosen
  hall agents bundles d condition =
      let m = choice agents bundles condition in
      let injective = submultiset-distinct m.chosen bundles m.within d in
      (m.chosen, record { suits_each = m.suits_each; injective = injective; from_bundles = submultiset-mem m.chosen bundles m.within })
