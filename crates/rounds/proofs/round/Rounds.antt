-- All rounds: each agent holds a bundle that suits it, and the bundles held are all items. Assumes nothing.
use mathlib.Core.Path.{◌≡◌, refl, sym, ap, ap₂, ◌∙◌}
use mathlib.Core.Bool.{Bool, true, false}
use mathlib.Core.Logic.{⊎_elim}
use mathlib.Core.List.Memᴰ.{cases_cons}
use mathlib.Core.List.Memᴰ.{not-nil}
use mathlib.Core.List.{List, [], ◌∷◌, map, Memᴰ as Mem}
use mathlib.Core.List.Sublistᴰ.{nil-sublist}
use mathlib.Core.List.Sublistᴰ.{trans as sublist-trans}
use mathlib.Core.List.{Sublistᴰ as Sublist}
use Prim.Native.Nat.{ℕ, zero, suc, ◌+◌, ◌≤◌}
use native.Mathlib.Nat.{eq-zero-or-pos}
use native.Mathlib.Omega.{arith}
use lib.ListN.{length}
use Rattle.lists.specs.Sums.{total, sum_over}
use Rattle.lists.specs.Lists.{elem}
use Rattle.lists.proofs.members.Distinct.{mem-elem, elem_mem, filter-elem}
use Rattle.lists.proofs.sums.Totals.{sum_over-none, sum_over-filter, sum_over-cong}
use Rattle.rounds.specs.Round.{Instance, items_suit, Round, round, rounds, given, held}
use Rattle.rounds.proofs.round.Held.{given-later, given_holds, all_suit-length, given-suits, sum_over-given}
use Rattle.rounds.proofs.round.Parts.{waiting-sub, waiting-falls, left-sub, bundles-sub, served-parts, waiting-not-served, not-waiting-served}
use Rattle.rounds.proofs.round.Invariant.{Sound, Left, agents-distinct, served-distinct, round-suits, round_items, none-waiting-none-left, left-next}

module _ (G : Instance) where
  -- as many rounds as there are agents are enough
  pub rounds-enough : (most most' : ℕ) (agents items : List ℕ) → length agents ≤ most → length agents ≤ most' → rounds G most agents items ≡ rounds G most' agents items
  unfolding rounds
  rounds-enough zero zero agents items few few' = refl
  rounds-enough zero (suc most') [] items few few' = refl
  rounds-enough zero (suc most') (a ∷ agents) items few few' = absurd (omega arith)
  rounds-enough (suc most) zero [] items few few' = refl
  rounds-enough (suc most) zero (a ∷ agents) items few few' = absurd (omega arith)
  rounds-enough (suc most) (suc most') [] items few few' = refl
  rounds-enough (suc most) (suc most') (a ∷ agents) items few few' =
      let r = round G (a ∷ agents) items in
      let falls = waiting-falls G (a ∷ agents) items (omega arith) in
      ap (λ rs. r ∷ rs) (rounds-enough most most' r.waiting r.left (omega arith) (omega arith))

  -- no more are played than the bound
  pub rounds-few : (most : ℕ) (agents items : List ℕ) → length (rounds G most agents items) ≤ most
  unfolding rounds
  rounds-few zero agents items = omega arith
  rounds-few (suc most) [] items = omega arith
  rounds-few (suc most) (a ∷ agents) items = let r = round G (a ∷ agents) items in omega (arith, rounds-few most r.waiting r.left)

  -- what an agent holds is part of the items
  pub held-sublist : (most : ℕ) (agents items : List ℕ) (agent : ℕ) → Sublist (held (rounds G most agents items) agent) items
  unfolding rounds held
  held-sublist zero agents items agent = nil-sublist items
  held-sublist (suc most) [] items agent = nil-sublist items
  held-sublist (suc most) (a ∷ agents) items agent =
      let r = round G (a ∷ agents) items in
      given_holds (λ b. Sublist b items) agent r.served r.bundles (held (rounds G most r.waiting r.left) agent) (bundles-sub G (a ∷ agents) items)
      (sublist-trans (held-sublist most r.waiting r.left agent) (left-sub G (a ∷ agents) items))

module _ {N M : ℕ} {G : Instance} (sound : Sound N M G) where
  -- what holds of a round of any agents and items that keep the invariant holds of every round
  pub rounds-each : (P : Round → Type 0) → ((agents items : List ℕ) → 1 ≤ length agents → Left N M G agents items → P (round G agents items))
      → (most : ℕ) (agents items : List ℕ) → Left N M G agents items → (r : Round) → Mem r (rounds G most agents items) → P r
  unfolding rounds
  rounds-each P each zero agents items state r m = absurd (not-nil m)
  rounds-each P each (suc most) [] items state r m = absurd (not-nil m)
  rounds-each P each (suc most) (a ∷ agents) items state r m =
      let now = round G (a ∷ agents) items in
      ⊎_elim
      (λ (e : r ≡ now). rw e (each (a ∷ agents) items (omega arith) state))
      (rounds-each P each most now.waiting now.left (left-next sound (omega arith) state) r)
      (cases_cons m)

  -- what an agent holds suits it
  pub held-suits : (most : ℕ) (agents items : List ℕ) → length agents ≤ most → Left N M G agents items
      → (agent : ℕ) → Mem agent agents → items_suit G agent (held (rounds G most agents items) agent) ≡ true
  unfolding rounds held
  held-suits zero [] items few state agent m = absurd (not-nil m)
  held-suits zero (a ∷ agents) items few state agent m = absurd (omega arith)
  held-suits (suc most) [] items few state agent m = absurd (not-nil m)
  held-suits (suc most) (a ∷ agents) items few state agent m =
      step (elem agent r.waiting) refl
      (held-suits most r.waiting r.left (omega (arith, waiting-falls G (a ∷ agents) items (omega arith))) (left-next sound (omega arith) state) agent)
    where
      r : Round
      r = round G (a ∷ agents) items

      later : List ℕ
      later = held (rounds G most r.waiting r.left) agent

      step : (b : Bool) → elem agent r.waiting ≡ b → (Mem agent r.waiting → items_suit G agent later ≡ true) → items_suit G agent (given agent r.served r.bundles later) ≡ true
      step true e below = rw (given-later agent r.served r.bundles later (waiting-not-served G (a ∷ agents) items agent e)) (below (elem_mem agent r.waiting e))
      step false e below = given-suits (items_suit G) agent r.served r.bundles later (round-suits sound (omega arith) state) (not-waiting-served G (a ∷ agents) items agent m e)

  -- one round: what the agents are given is all items, where what those who wait hold later is all that is left
  given-all : (w : ℕ → ℕ) (agents items : List ℕ) (later : ℕ → List ℕ) → 1 ≤ length agents → Left N M G agents items
      → let r = round G agents items in
      sum_over (λ agent. sum_over w (later agent)) r.waiting ≡ sum_over w r.left
      → sum_over (λ agent. sum_over w (given agent r.served r.bundles (later agent))) agents ≡ sum_over w items
  given-all w agents items later some state rest =
      sym (sum_over-filter get (λ agent. elem agent r.waiting) agents)
      ∙ ap₂ ◌+◌
      (ap (sum_over get) (sym (served-parts G agents items)) ∙ of-served)
      (ap (sum_over get) (filter-elem (waiting-sub G agents items) (agents-distinct sound some state)) ∙ of-waiting ∙ rest)
      ∙ round_items sound some state w
    where
      r : Round
      r = round G agents items

      get : ℕ → ℕ
      get agent = sum_over w (given agent r.served r.bundles (later agent))

      of-served : sum_over get r.served ≡ total (map (sum_over w) r.bundles)
      of-served =
          sum_over-given (sum_over w) r.served r.bundles later (served-distinct sound some state) (all_suit-length (items_suit G) r.served r.bundles (round-suits sound some state))

      of-waiting : sum_over get r.waiting ≡ sum_over (λ agent. sum_over w (later agent)) r.waiting
      of-waiting =
          sum_over-cong get (λ agent. sum_over w (later agent)) r.waiting
          (λ agent m. ap (sum_over w) (given-later agent r.served r.bundles (later agent) (waiting-not-served G agents items agent (mem-elem m))))

  -- what the agents hold together is all items
  pub held_all : (w : ℕ → ℕ) (most : ℕ) (agents items : List ℕ) → 1 ≤ length agents → length agents ≤ most → Left N M G agents items
      → sum_over (λ agent. sum_over w (held (rounds G most agents items) agent)) agents ≡ sum_over w items
  unfolding rounds held
  held_all w zero agents items some few state = absurd (omega arith)
  held_all w (suc most) [] items some few state = absurd (omega arith)
  held_all w (suc most) (a ∷ agents) items some few state =
      given-all w (a ∷ agents) items later some state
      (⊎_elim
      (λ none. sum_over-none (λ agent. sum_over w (later agent)) r.waiting none ∙ sym (ap (sum_over w) (none-waiting-none-left sound some state none)))
      (λ more. held_all w most r.waiting r.left more (omega (arith, waiting-falls G (a ∷ agents) items some)) (left-next sound some state))
      (eq-zero-or-pos (length r.waiting)))
    where
      r : Round
      r = round G (a ∷ agents) items

      later : ℕ → List ℕ
      later = held (rounds G most r.waiting r.left)
