-- An array that is filled from its front by a function of the place. Assumes nothing.
use mathlib.Core.Path.{◌≡◌, sym, ap, ◌∙◌}
use mathlib.Core.List.{List, [], ◌∷◌, ◌++◌, map, map-append}
use Prim.Native.Nat.{ℕ, ◌+◌, ◌≤◌, ◌<◌}
use native.Mathlib.Nat.{add_comm}
use native.Mathlib.Numerals.{add-one}
use native.Mathlib.Omega.{arith}
use lib.ListN.{length, take, set, length-set}
use lib.Seq.{take-suc-set, take_all}
use Rattle.lists.specs.Lists.{range}
use Rattle.lists.proofs.ranges.Ranges.{range-append}

-- the first i of the n places are filled
pub record Filled {A : Type 0} (f : ℕ → A) (n : ℕ) (l : List A) (i : ℕ) : Type 0 where
  pub within : i ≤ n
  pub places : length l ≡ n
  pub filled : take i l ≡ map f (range 1 i)

module _ {A : Type 0} (f : ℕ → A) (n : ℕ) (l : List A) (i : ℕ) (part : Filled f n l i) where
  -- one place more
  pub fill-next : (a : A) → a ≡ f (i + 1) → i < n → Filled f n (set l i a) (i + 1)
  fill-next a e more =
      record {
        within = omega arith;
        places = length-set l i a ∙ part.places;
        filled =
            ap (λ k. take k (set l i a)) (add-one i)
            ∙ take-suc-set l i a (omega (arith, part.places))
            ∙ ap (λ xs. xs ++ (a ∷ [])) part.filled
            ∙ ap (λ x. map f (range 1 i) ++ (x ∷ [])) (e ∙ ap f (add_comm i 1))
            ∙ sym (ap (map f) (range-append 1 i 1) ∙ map-append f (range 1 i) (range (1 + i) 1));
      }

  -- all places are filled
  pub fill-all : i ≡ n → l ≡ map f (range 1 n)
  fill-all e = sym (take_all n l (omega (arith, part.places))) ∙ ap (λ k. take k l) (sym e) ∙ part.filled ∙ ap (λ k. map f (range 1 k)) e
