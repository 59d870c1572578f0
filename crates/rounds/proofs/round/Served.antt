-- Each agent is served in one round, and holds the bundle at its place among those served there. Assumes nothing.
use mathlib.Core.Path.{◌≡◌, refl, sym, ap, ◌∙◌}
use mathlib.Core.Bool.{Bool, true, false, true≢false}
use mathlib.Core.Logic.{⊎_elim}
use mathlib.Core.List.Memᴰ.{cases_cons}
use mathlib.Core.List.Memᴰ.{not-nil}
use mathlib.Core.List.{List, [], ◌∷◌, Memᴰ as Mem}
use Prim.Native.Nat.{ℕ, zero, suc, ◌+◌, ◌-◌, ◌≤◌}
use native.Mathlib.Omega.{arith}
use lib.ListN.{length}
use Rattle.lists.specs.Lists.{bit, nth, count, elem}
use Rattle.lists.proofs.ranges.Ranges.{in-range, nth-mem}
use Rattle.lists.proofs.members.Counting.{reject-mem, sublist-mem, count_none}
use Rattle.lists.proofs.members.Distinct.{mem-elem, elem_mem, not-mem-elem}
use Rattle.rounds.specs.Round.{Instance, items_suit, Round, round, rounds, given, held}
use Rattle.rounds.proofs.round.Held.{given-later, all_suit-length, given-at}
use Rattle.rounds.proofs.round.Parts.{waiting-sub, waiting-falls, served-parts, waiting-not-served, not-waiting-served}
use Rattle.rounds.proofs.round.Invariant.{Sound, Left, served-distinct, round-suits, left-next}

module _ (G : Instance) where
  -- only agents left are served, in every round
  pub served-among : (most : ℕ) (agents items : List ℕ) (r : Round) → Mem r (rounds G most agents items) → (agent : ℕ) → Mem agent r.served → Mem agent agents
  unfolding rounds
  served-among zero agents items r m agent ms = absurd (not-nil m)
  served-among (suc most) [] items r m agent ms = absurd (not-nil m)
  served-among (suc most) (a ∷ agents) items r m agent ms =
      let now = round G (a ∷ agents) items in
      ⊎_elim
      (λ (e : r ≡ now). (reject-mem (λ b. elem b now.waiting) (a ∷ agents) (rw (e, served-parts G (a ∷ agents) items) at ms)).0)
      (λ later. sublist-mem (waiting-sub G (a ∷ agents) items) (served-among most now.waiting now.left r later agent ms))
      (cases_cons m)

  -- each agent left is served in one round
  pub served-in-one-round : (most : ℕ) (agents items : List ℕ) → length agents ≤ most → (agent : ℕ) → Mem agent agents
      → count (λ r. elem agent r.served) (rounds G most agents items) ≡ 1
  unfolding rounds
  served-in-one-round zero [] items few agent m = absurd (not-nil m)
  served-in-one-round zero (a ∷ agents) items few agent m = absurd (omega arith)
  served-in-one-round (suc most) [] items few agent m = absurd (not-nil m)
  served-in-one-round (suc most) (a ∷ agents) items few agent m =
      step (elem agent r.waiting) refl
      (served-in-one-round most r.waiting r.left (omega (arith, waiting-falls G (a ∷ agents) items (omega arith))) agent)
    where
      r : Round
      r = round G (a ∷ agents) items

      serves : Round → Bool
      serves s = elem agent s.served

      later : ℕ
      later = count serves (rounds G most r.waiting r.left)

      step : (b : Bool) → elem agent r.waiting ≡ b → (Mem agent r.waiting → later ≡ 1) → bit (serves r) + later ≡ 1
      step true e below = omega (arith, ap bit (waiting-not-served G (a ∷ agents) items agent e), below (elem_mem agent r.waiting e))
      step false e below =
          omega (
            arith,
            ap bit (mem-elem (not-waiting-served G (a ∷ agents) items agent m e)),
            count_none serves (rounds G most r.waiting r.left)
                (λ s ms. not-mem-elem agent s.served (λ mem. true≢false (sym (mem-elem (served-among most r.waiting r.left s ms agent mem)) ∙ e))),
          )

module _ {N M : ℕ} {G : Instance} (sound : Sound N M G) where
  -- in one round the agent at place k of those served is given the bundle at place k
  given-at-place : (agents items later : List ℕ) → 1 ≤ length agents → Left N M G agents items
      → let r = round G agents items in
      (k : ℕ) → 1 ≤ k → k ≤ length r.served → given (nth 0 r.served k) r.served r.bundles later ≡ nth [] r.bundles k
  given-at-place agents items later some state k lo hi =
      let r = round G agents items in
      given-at r.served r.bundles later (served-distinct sound some state)
      (all_suit-length (items_suit G) r.served r.bundles (round-suits sound some state)) (k - 1) (omega arith)

  -- in all rounds it holds that bundle
  pub held-at-place : (most : ℕ) (agents items : List ℕ) → Left N M G agents items → (r : Round) → Mem r (rounds G most agents items)
      → (k : ℕ) → 1 ≤ k → k ≤ length r.served → held (rounds G most agents items) (nth 0 r.served k) ≡ nth [] r.bundles k
  unfolding rounds held
  held-at-place zero agents items state r m k lo hi = absurd (not-nil m)
  held-at-place (suc most) [] items state r m k lo hi = absurd (not-nil m)
  held-at-place (suc most) (a ∷ agents) items state r m k lo hi =
      let now = round G (a ∷ agents) items in
      let rest = rounds G most now.waiting now.left in
      let agent = nth 0 r.served k in
      let agent-served : Mem agent r.served = nth-mem 0 r.served (length r.served) refl (in-range 1 (length r.served) k lo (omega arith)) in
      ⊎_elim
      (λ (e : r ≡ now). rw e (given-at-place (a ∷ agents) items (held rest (nth 0 now.served k)) (omega arith) state k lo (rw e at hi)))
      (λ later.
      let waits = mem-elem (served-among G most now.waiting now.left r later agent agent-served) in
      given-later agent now.served now.bundles (held rest agent) (waiting-not-served G (a ∷ agents) items agent waits)
      ∙ held-at-place most now.waiting now.left (left-next sound (omega arith) state) r later k lo hi)
      (cases_cons m)
