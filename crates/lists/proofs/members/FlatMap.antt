-- Lists that are put together of parts: of the parts of two lists, one part more, equal parts, parts under a map, and the length of the
-- whole. Assumes nothing.
use mathlib.Core.Path.{◌≡◌, refl, sym, ap, ap₂, ◌∙◌}
use mathlib.Core.List.Memᴰ.{head as here}
use mathlib.Core.List.Memᴰ.{tail as there}
use mathlib.Core.List.{List, [], ◌∷◌, ◌++◌, append-nil, append_assoc, map, flat_map, flatten, Memᴰ as Mem}
use Prim.Native.Nat.{ℕ, ◌+◌, ◌≤◌}
use native.Mathlib.Omega.{arith}
use lib.ListN.{length, length-append}
use Rattle.lists.specs.Lists.{range}
use Rattle.lists.specs.Sums.{sum_over}
use Rattle.lists.proofs.places.Passing.{range-next}

-- the parts of two lists, one behind the other
pub flat_map-append : {A B : Type 0} (f : A → List B) (xs ys : List A) → flat_map f (xs ++ ys) ≡ flat_map f xs ++ flat_map f ys
unfolding flat_map
flat_map-append f [] ys = refl
flat_map-append f (x ∷ xs) ys = ap (λ l. f x ++ l) (flat_map-append f xs ys) ∙ sym (append_assoc (f x) (flat_map f xs) (flat_map f ys))

pub flatten-append : {A : Type 0} (xs ys : List (List A)) → flatten (xs ++ ys) ≡ flatten xs ++ flatten ys
unfolding flatten
flatten-append [] ys = refl
flatten-append (x ∷ xs) ys = ap (λ l. x ++ l) (flatten-append xs ys) ∙ sym (append_assoc x (flatten xs) (flatten ys))

module _ {A : Type 0} (f : ℕ → List A) where
  -- one part more
  pub flat_map-next : (i : ℕ) → flat_map f (range 1 (i + 1)) ≡ flat_map f (range 1 i) ++ f (i + 1)
  unfolding flat_map
  flat_map-next i =
      ap (flat_map f) (range-next i) ∙ flat_map-append f (range 1 i) ((i + 1) ∷ []) ∙ ap (λ l. flat_map f (range 1 i) ++ l) (append-nil (f (i + 1)))

  -- equal parts
  pub flat_map-cong : (g : ℕ → List A) (ks : List ℕ) → ((k : ℕ) → Mem k ks → f k ≡ g k) → flat_map f ks ≡ flat_map g ks
  unfolding flat_map
  flat_map-cong g [] same = refl
  flat_map-cong g (k ∷ ks) same = ap₂ ◌++◌ (same k (here refl)) (flat_map-cong g ks (λ j m. same j (there m)))

  -- the parts are no longer than w says
  pub length-flat_map-le : (w : ℕ → ℕ) (ks : List ℕ) → ((k : ℕ) → Mem k ks → length (f k) ≤ w k) → length (flat_map f ks) ≤ sum_over w ks
  unfolding flat_map
  length-flat_map-le w [] le = omega arith
  length-flat_map-le w (k ∷ ks) le = omega (arith, length-append (f k) (flat_map f ks), le k (here refl), length-flat_map-le w ks (λ j m. le j (there m)))

pub flat_map-map : {A B C : Type 0} (f : B → List C) (g : A → B) (xs : List A) → flat_map f (map g xs) ≡ flat_map (λ x. f (g x)) xs
unfolding flat_map
flat_map-map f g [] = refl
flat_map-map f g (x ∷ xs) = ap (λ t. f (g x) ++ t) (flat_map-map f g xs)
