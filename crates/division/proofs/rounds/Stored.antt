-- The sets of the agents served, stored in their places: each agent served has its own there, and every other place is kept. Assumes nothing.
use mathlib.Core.Path.{◌≡◌, refl, sym, ap, ◌∙◌}
use mathlib.Core.Bool.{true, false, not, ◌||◌, true≢false, and-eq-true_iff}
use mathlib.Core.Logic.{⊎_elim}
use mathlib.Core.List.Memᴰ.{cases_cons}
use mathlib.Core.List.Memᴰ.{not-nil}
use mathlib.Core.List.{List, [], ◌∷◌, map, Memᴰ as Mem}
use Prim.Native.Nat.{ℕ, ◌-◌, ◌≤◌}
use native.Mathlib.Omega.{arith}
use lib.ListN.{length, get_or, drop, set as store, length-set}
use lib.Seq.{get_or-set_same, get_or-set_other}
use borrow.Author.Tests.{eq-eqb, ne_eqb, not-true}
use Rattle.lists.specs.Lists.{elem, distinct, Within}
use Rattle.lists.proofs.Cases.{eq-or-ne}
use Rattle.sheet.specs.Sets.{set_of}
use Rattle.rounds.specs.Round.{given}
use Rattle.division.specs.internal.Allocation.{stored}

pub stored_length : (served sets places : List ℕ) → length (stored served sets places) ≡ length places
stored_length [] sets places = refl
stored_length (a ∷ served) sets places = stored_length served (drop 1 sets) (store places (a - 1) (get_or sets 0 0)) ∙ length-set places (a - 1) (get_or sets 0 0)

module _ (agent : ℕ) (some : 1 ≤ agent) where
  -- an agent that is not served keeps what is in its place
  pub stored_other : (n : ℕ) (served sets places : List ℕ) → Within n served → elem agent served ≡ false → get_or (stored served sets places) (agent - 1) 0 ≡ get_or places (agent - 1) 0
  stored_other n [] sets places within out = refl
  stored_other n (a ∷ served) sets places within out =
      ⊎_elim
      (λ (e : agent ≡ a). absurd (true≢false (sym (ap (λ t. t || elem agent served) (eq-eqb agent a e)) ∙ out)))
      (λ ne. stored_other n served (drop 1 sets) (store places (a - 1) (get_or sets 0 0)) within.2 (sym (ap (λ t. t || elem agent served) (ne_eqb agent a ne)) ∙ out)
      ∙ get_or-set_other places (a - 1) (agent - 1) (get_or sets 0 0) 0 (λ e. ne (omega (arith, within.0))))
      (eq-or-ne agent a)

  -- an agent that is served has its bundle there
  pub stored-given : (n : ℕ) (served : List ℕ) (bundles : List (List ℕ)) (places later : List ℕ) → Within n served → distinct served ≡ true → length bundles ≡ length served → agent ≤ length places
      → Mem agent served → get_or (stored served (map set_of bundles) places) (agent - 1) 0 ≡ set_of (given agent served bundles later)
  stored-given n [] bundles places later within once each room m = absurd (not-nil m)
  stored-given n (a ∷ served) [] places later within once each room m = absurd (omega arith)
  stored-given n (a ∷ served) (b ∷ bundles) places later within once each room m =
      ⊎_elim
      (λ (e : agent ≡ a). rw (eq-eqb agent a e) (mine e))
      (λ ne. rw (ne_eqb agent a ne)
      (stored-given n served bundles (store places (a - 1) (set_of b)) later within.2 both.1 (omega arith) (omega (arith, length-set places (a - 1) (set_of b)))
      (⊎_elim (λ e. absurd (ne e)) (λ k. k) (cases_cons m))))
      (eq-or-ne agent a)
    where
      both : (not (elem a served) ≡ true) × (distinct served ≡ true)
      both = (and-eq-true_iff (not (elem a served)) (distinct served)).0 once

      mine : agent ≡ a → get_or (stored served (map set_of bundles) (store places (a - 1) (set_of b))) (agent - 1) 0 ≡ set_of b
      mine e =
          stored_other n served (map set_of bundles) (store places (a - 1) (set_of b)) within.2 (rw e (not-true (elem a served) both.0))
          ∙ ap (λ k. get_or (store places (a - 1) (set_of b)) (k - 1) 0) e
          ∙ get_or-set_same places (a - 1) (set_of b) 0 (omega arith)
