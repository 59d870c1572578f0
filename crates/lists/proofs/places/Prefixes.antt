-- Laws of lists with the same numbers in front of each. Assumes nothing.
use mathlib.Core.Path.{◌≡◌, refl, sym, ap, ap₂}
use mathlib.Core.List.{List, [], ◌∷◌, ◌++◌, map, append_assoc}

module _ {A : Type 0} where
  -- a member in front of each list is one more at the end of the prefix
  pub prefix-cons : (xs : List A) (x : A) (ls : List (List A)) → map (λ l. xs ++ l) (map (λ l. x ∷ l) ls) ≡ map (λ l. (xs ++ (x ∷ [])) ++ l) ls
  prefix-cons xs x [] = refl
  prefix-cons xs x (l ∷ ls) = ap₂ ◌∷◌ (sym (append_assoc xs (x ∷ []) l)) (prefix-cons xs x ls)

  -- nothing in front
  pub prefix-none : (ls : List (List A)) → map (λ l. [] ++ l) ls ≡ ls
  prefix-none [] = refl
  prefix-none (l ∷ ls) = ap (λ r. l ∷ r) (prefix-none ls)
