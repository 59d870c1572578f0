-- Exchanging two numbers of 1 .. n: the values of a function are only renamed, so the least of them is the same. Assumes nothing.
use mathlib.Core.Path.{◌≡◌, refl, sym, ap, subst₂, ◌∙◌}
use mathlib.Core.Bool.{cond}
use mathlib.Core.Logic.{⊎_elim}
use mathlib.Core.List.{List, [], ◌∷◌, map}
use Prim.Native.Nat.{ℕ, ◌≤◌}
use native.Mathlib.Nat.{le_antisymm}
use native.Mathlib.Omega.{arith}
use lib.Dec.{eqb}
use borrow.Author.Tests.{eq-eqb, ne_eqb}
use Rattle.lists.specs.Lists.{Within}
use Rattle.lists.specs.Sums.{least_of}
use Rattle.lists.proofs.Cases.{eq-or-ne}
use Rattle.lists.proofs.sums.LeastOf.{least_of-le, le-least_of}

module _ (i j : ℕ) where
  -- i for j and j for i
  pub exchange : ℕ → ℕ
  exchange c = cond (eqb c i) j (cond (eqb c j) i c)

  pub exchange-left : exchange i ≡ j
  unfolding exchange
  exchange-left = rw (eq-eqb i i refl)

  exchange-right : exchange j ≡ i
  unfolding exchange
  exchange-right =
      ⊎_elim (λ e. rw (eq-eqb j i e) e) (λ ne. rw (ne_eqb j i ne, eq-eqb j j refl)) (eq-or-ne j i)

  exchange-other : (c : ℕ) → (c ≡ i → ⊥) → (c ≡ j → ⊥) → exchange c ≡ c
  unfolding exchange
  exchange-other c ni nj = rw (ne_eqb c i ni, ne_eqb c j nj)

  -- what holds at i for j, at j for i and at any other number for itself holds everywhere
  pub exchange-cases : (P : ℕ → ℕ → Type 0) → P i j → P j i → ((c : ℕ) → (c ≡ i → ⊥) → (c ≡ j → ⊥) → P c c) → (c : ℕ) → P c (exchange c)
  exchange-cases P left right other c =
      ⊎_elim
      (λ e. subst₂ P (sym e) (sym (ap exchange e ∙ exchange-left)) left)
      (λ ni. ⊎_elim (λ e. subst₂ P (sym e) (sym (ap exchange e ∙ exchange-right)) right) (λ nj. rw (exchange-other c ni nj) (other c ni nj)) (eq-or-ne c j))
      (eq-or-ne c i)

  exchange-exchange : (c : ℕ) → exchange (exchange c) ≡ c
  exchange-exchange = exchange-cases (λ c d. exchange d ≡ c) exchange-right exchange-left exchange-other

  pub exchange-eqb : (c d : ℕ) → eqb (exchange c) (exchange d) ≡ eqb c d
  exchange-eqb c d =
      ⊎_elim
      (λ e. eq-eqb (exchange c) (exchange d) (ap exchange e) ∙ sym (eq-eqb c d e))
      (λ ne. ne_eqb _ _ (λ e. ne (sym (exchange-exchange c) ∙ ap exchange e ∙ exchange-exchange d)) ∙ sym (ne_eqb c d ne))
      (eq-or-ne c d)

  module _ (n : ℕ) (i-low : 1 ≤ i) (i-high : i ≤ n) (j-low : 1 ≤ j) (j-high : j ≤ n) where
    exchange-bounds : (c : ℕ) → 1 ≤ c → c ≤ n → (1 ≤ exchange c) × (exchange c ≤ n)
    exchange-bounds = exchange-cases (λ c d. 1 ≤ c → c ≤ n → (1 ≤ d) × (d ≤ n)) (λ _ _. (j-low, j-high)) (λ _ _. (i-low, i-high)) (λ c _ _ lo hi. (lo, hi))

    pub exchange-within : (l : List ℕ) → Within n l → Within n (map exchange l)
    exchange-within [] w = tt
    exchange-within (c ∷ l) w = let b = exchange-bounds c w.0 w.1 in (b.0, b.1, exchange-within l w.2)

    pub least_of-exchange : (w : ℕ → ℕ) → least_of (λ c. w (exchange c)) n ≡ least_of w n
    least_of-exchange w =
        le_antisymm
        (le-least_of w n _ (omega arith) (λ c lo hi. let b = exchange-bounds c lo hi in
        omega (arith, ap w (exchange-exchange c), least_of-le (λ d. w (exchange d)) n (exchange c) b.0 b.1)))
        (le-least_of (λ c. w (exchange c)) n _ (omega arith) (λ c lo hi. let b = exchange-bounds c lo hi in least_of-le w n (exchange c) b.0 b.1))
