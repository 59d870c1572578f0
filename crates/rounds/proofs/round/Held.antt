-- Laws of the bundle that an agent is given in a round, or holds from a later one. Assumes nothing.
use mathlib.Core.Path.{◌≡◌, refl, sym, ap, ap₂, ◌∙◌}
use mathlib.Core.Bool.{Bool, true, false, not, cond, ◌||◌, false≢true, true≢false, and-eq-true_iff}
use mathlib.Core.Logic.{⊎_elim}
use mathlib.Core.List.Memᴰ.{head as here}
use mathlib.Core.List.Memᴰ.{tail as there}
use mathlib.Core.List.{List, [], ◌∷◌, map, Memᴰ as Mem}
use mathlib.Core.List.Memᴰ.{cases_cons}
use mathlib.Core.List.Memᴰ.{not-nil}
use Prim.Native.Nat.{ℕ, zero, suc, ◌+◌, ◌-◌, ◌<◌}
use native.Mathlib.Omega.{arith}
use lib.Dec.{eqb}
use lib.ListN.{length, get_or}
use borrow.Author.Tests.{eq-eqb, ne_eqb, eqb-true, not-true}
use Rattle.lists.specs.Sums.{total, sum_over}
use Rattle.lists.specs.Lists.{elem, distinct}
use Rattle.lists.proofs.ranges.Ranges.{in-range, nth-mem}
use Rattle.lists.proofs.members.Distinct.{mem-elem}
use Rattle.lists.proofs.sums.Totals.{sum_over-cong}
use Rattle.matching.specs.Matching.{suited}
use Rattle.rounds.specs.Round.{given}

-- an agent that is not served has its bundle from later
pub given-later : (agent : ℕ) (served : List ℕ) (bundles : List (List ℕ)) (later : List ℕ) → elem agent served ≡ false → given agent served bundles later ≡ later
given-later agent [] bundles later out = refl
given-later agent (a ∷ served) [] later out = refl
given-later agent (a ∷ served) (b ∷ bundles) later out = step (eqb agent a) refl (given-later agent served bundles later)
  where
    step : (t : Bool) → eqb agent a ≡ t → (elem agent served ≡ false → given agent served bundles later ≡ later)
        → cond t b (given agent served bundles later) ≡ later
    step true e below = absurd (true≢false (sym (ap (λ t. t || elem agent served) e) ∙ out))
    step false e below = below (sym (ap (λ t. t || elem agent served) e) ∙ out)

-- what holds of each bundle that is handed out and of the later one holds of the one given
pub given_holds : (P : List ℕ → Type 0) (agent : ℕ) (served : List ℕ) (bundles : List (List ℕ)) (later : List ℕ)
    → ((b : List ℕ) → Mem b bundles → P b) → P later → P (given agent served bundles later)
given_holds P agent [] bundles later each last = last
given_holds P agent (a ∷ served) [] later each last = last
given_holds P agent (a ∷ served) (b ∷ bundles) later each last = elim (eqb agent a) as (λ t. P (cond t b (given agent served bundles later)))
    [ true ↦ each b (here refl) | false ↦ given_holds P agent served bundles later (λ c m. each c (there m)) last ]

-- each bundle suits the agent at its place, and there is one for each agent: `suited` of matching as a type, of bundles in the place of their numbers
abbrev pub AllSuit : (ℕ → List ℕ → Bool) → List ℕ → List (List ℕ) → Type 0
AllSuit items_suit [] [] = Unit {0}
AllSuit items_suit [] (b ∷ bundles) = ⊥
AllSuit items_suit (a ∷ served) [] = ⊥
AllSuit items_suit (a ∷ served) (b ∷ bundles) = (items_suit a b ≡ true) × AllSuit items_suit served bundles

pub suited-all_suit : (items_suit : ℕ → List ℕ → Bool) (bundle : ℕ → List ℕ) (served chosen : List ℕ)
    → suited (λ a c. items_suit a (bundle c)) served chosen ≡ true → AllSuit items_suit served (map bundle chosen)
suited-all_suit items_suit bundle [] [] each = tt
suited-all_suit items_suit bundle [] (c ∷ chosen) each = absurd (false≢true each)
suited-all_suit items_suit bundle (a ∷ served) [] each = absurd (false≢true each)
suited-all_suit items_suit bundle (a ∷ served) (c ∷ chosen) each =
    let (first, rest) = (and-eq-true_iff (items_suit a (bundle c)) (suited (λ a c. items_suit a (bundle c)) served chosen)).0 each in
    (first, suited-all_suit items_suit bundle served chosen rest)

pub all_suit-length : (items_suit : ℕ → List ℕ → Bool) (served : List ℕ) (bundles : List (List ℕ)) → AllSuit items_suit served bundles → length bundles ≡ length served
all_suit-length items_suit [] [] each = refl
all_suit-length items_suit [] (b ∷ bundles) each = absurd each
all_suit-length items_suit (a ∷ served) [] each = absurd each
all_suit-length items_suit (a ∷ served) (b ∷ bundles) each = ap suc (all_suit-length items_suit served bundles each.1)

-- an agent that is served is given a bundle that suits it
pub given-suits : (items_suit : ℕ → List ℕ → Bool) (agent : ℕ) (served : List ℕ) (bundles : List (List ℕ)) (later : List ℕ)
    → AllSuit items_suit served bundles → Mem agent served → items_suit agent (given agent served bundles later) ≡ true
given-suits items_suit agent [] bundles later each m = absurd (not-nil m)
given-suits items_suit agent (a ∷ served) [] later each m = absurd each
given-suits items_suit agent (a ∷ served) (b ∷ bundles) later each m = step (eqb agent a) refl (given-suits items_suit agent served bundles later each.1)
  where
    step : (t : Bool) → eqb agent a ≡ t → (Mem agent served → items_suit agent (given agent served bundles later) ≡ true)
        → items_suit agent (cond t b (given agent served bundles later)) ≡ true
    step true e below = rw (eqb-true agent a e) each.0
    step false e below = below (⊎_elim (λ d. absurd (true≢false (sym (eq-eqb agent a d) ∙ e))) (λ n. n) (cases_cons m))

-- an agent that is served is given the bundle at its place
pub given-at : (served : List ℕ) (bundles : List (List ℕ)) (later : List ℕ) → distinct served ≡ true → length bundles ≡ length served
    → (i : ℕ) → i < length served → given (get_or served i 0) served bundles later ≡ get_or bundles i []
given-at [] bundles later once same i lt = absurd (omega arith)
given-at (a ∷ served) [] later once same i lt = absurd (omega arith)
given-at (a ∷ served) (b ∷ bundles) later once same zero lt = rw (eq-eqb a a refl)
given-at (a ∷ served) (b ∷ bundles) later once same (suc i) lt =
    let (out, once') = (and-eq-true_iff (not (elem a served)) (distinct served)).0 once in
    let agent = get_or served i 0 in
    let before : suc i - 1 ≡ i = omega arith in
    let mem : Mem agent served = rw before at (nth-mem 0 served (length served) refl (in-range 1 (length served) (suc i) (omega arith) (omega arith))) in
    rw (ne_eqb agent a (λ e. true≢false (sym (mem-elem mem) ∙ ap (λ y. elem y served) e ∙ not-true (elem a served) out)))
    (given-at served bundles later once' (omega arith) i (omega arith))

-- the agents that are served are given the bundles that are handed out
pub sum_over-given : (w : List ℕ → ℕ) (served : List ℕ) (bundles : List (List ℕ)) (later : ℕ → List ℕ) → distinct served ≡ true → length bundles ≡ length served
    → sum_over (λ agent. w (given agent served bundles (later agent))) served ≡ total (map w bundles)
sum_over-given w [] [] later once same = refl
sum_over-given w [] (b ∷ bundles) later once same = absurd (omega arith)
sum_over-given w (a ∷ served) [] later once same = absurd (omega arith)
sum_over-given w (a ∷ served) (b ∷ bundles) later once same =
    ap₂ ◌+◌ (ap (λ t. w (cond t b (given a served bundles (later a)))) (eq-eqb a a refl))
    (sum_over-cong (λ agent. w (given agent (a ∷ served) (b ∷ bundles) (later agent))) (λ agent. w (given agent served bundles (later agent))) served other
    ∙ sum_over-given w served bundles later both.1 (omega arith))
  where
    both : (not (elem a served) ≡ true) × (distinct served ≡ true)
    both = (and-eq-true_iff (not (elem a served)) (distinct served)).0 once

    other : (agent : ℕ) → Mem agent served → w (given agent (a ∷ served) (b ∷ bundles) (later agent)) ≡ w (given agent served bundles (later agent))
    other agent m =
        ap (λ t. w (cond t b (given agent served bundles (later agent))))
        (ne_eqb agent a (λ e. true≢false (sym (mem-elem m) ∙ ap (λ y. elem y served) e ∙ not-true (elem a served) both.0)))
