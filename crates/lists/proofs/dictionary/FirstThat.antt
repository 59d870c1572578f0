-- The first list that passes a test, where no list does, and of two parts. Assumes nothing.
use mathlib.Core.Path.{◌≡◌, refl, sym, ◌∙◌}
use mathlib.Core.Bool.{Bool, true, false, cond, true≢false}
use mathlib.Core.List.Memᴰ.{head as here}
use mathlib.Core.List.Memᴰ.{tail as there}
use mathlib.Core.List.{List, [], ◌∷◌, ◌++◌, Memᴰ as Mem}
use Prim.Native.Nat.{ℕ}
use native.Mathlib.Omega.{arith}
use lib.ListN.{length}
use Rattle.lists.specs.Dictionary.{first_that}

-- the second list where the first is empty
abbrev pub or_else : List ℕ → List ℕ → List ℕ
or_else [] later = later
or_else (x ∷ xs) later = x ∷ xs

pub or_else-some : (xs later : List ℕ) → (length xs ≡ 0 → ⊥) → or_else xs later ≡ xs
or_else-some [] later some = absurd (some refl)
or_else-some (x ∷ xs) later some = refl

pub or_else-none : (xs later : List ℕ) → length xs ≡ 0 → or_else xs later ≡ later
or_else-none [] later none = refl
or_else-none (x ∷ xs) later none = absurd (omega arith)

module _ (p : List ℕ → Bool) where
  pub first_that-none : (ls : List (List ℕ)) → ((l : List ℕ) → Mem l ls → p l ≡ false) → first_that p ls ≡ []
  first_that-none [] fails = refl
  first_that-none (l ∷ ls) fails = rw (fails l (here refl)) (first_that-none ls (λ k m. fails k (there m)))

  -- the first of two parts: that of the first part, and that of the second where the first part has none
  pub first_that-append : p [] ≡ false → (xs ys : List (List ℕ)) → first_that p (xs ++ ys) ≡ or_else (first_that p xs) (first_that p ys)
  first_that-append no-empty [] ys = refl
  first_that-append no-empty (l ∷ xs) ys = step l (p l) refl (first_that-append no-empty xs ys)
    where
      step : (l : List ℕ) (b : Bool) → p l ≡ b → first_that p (xs ++ ys) ≡ or_else (first_that p xs) (first_that p ys)
          → cond b l (first_that p (xs ++ ys)) ≡ or_else (cond b l (first_that p xs)) (first_that p ys)
      step [] true e below = absurd (true≢false (sym e ∙ no-empty))
      step (x ∷ l) true e below = refl
      step l false e below = below
