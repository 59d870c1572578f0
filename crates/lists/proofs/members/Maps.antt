-- Functions that agree on a list agree in what is made of their values. Assumes nothing.
use mathlib.Core.Path.{◌≡◌, refl, ap}
use mathlib.Core.List.{List, [], ◌∷◌, map}

pub map-alike : {A B C : Type 0} (f g : A → B) (h : A → B → C) (xs : List A) → map f xs ≡ map g xs → map (λ x. h x (f x)) xs ≡ map (λ x. h x (g x)) xs
map-alike f g h [] e = refl
map-alike f g h (x ∷ xs) e =
    let first : f x ≡ g x = cc in
    let rest : map f xs ≡ map g xs = cc in
    rw first (ap (λ l. h x (g x) ∷ l) (map-alike f g h xs rest))
