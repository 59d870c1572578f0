-- What the members of a list lack to a bound, in all. Assumes nothing.
use mathlib.Core.Path.{refl}
use mathlib.Core.List.Memᴰ.{head as here}
use mathlib.Core.List.Memᴰ.{tail as there}
use mathlib.Core.List.{List, [], ◌∷◌, map, Memᴰ as Mem}
use Prim.Native.Nat.{ℕ, ◌+◌, ◌-◌, ◌≤◌, zero-le}
use native.Mathlib.Omega.{arith}
use Rattle.lists.specs.Sums.{total}

-- the sum of what each member lacks to b
abbrev pub deficit : ℕ → List ℕ → ℕ
deficit b [] = 0
deficit b (x ∷ xs) = (b - x) + deficit b xs

pub deficit-le-total : (b : ℕ) (f g : ℕ → ℕ) (cs : List ℕ) → ((c : ℕ) → Mem c cs → b ≤ f c + g c) → deficit b (map f cs) ≤ total (map g cs)
deficit-le-total b f g [] h = zero-le
deficit-le-total b f g (c ∷ cs) h =
    let first = h c (here refl) in
    let rest = deficit-le-total b f g cs (λ d m. h d (there m)) in
    omega arith
