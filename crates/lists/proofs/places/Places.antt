-- The places of a list that a loop fills: what stands in the next one, and bounds on all. Assumes nothing.
use mathlib.Core.Path.{◌≡◌, ap, subst⁻¹, ◌∙◌}
use mathlib.Core.List.{List, [], ◌∷◌, map, Memᴰ as Mem}
use Prim.Native.Nat.{ℕ, zero, suc, ◌+◌, ◌≤◌}
use native.Mathlib.Nat.{add-sub_cancel}
use lib.ListN.{length, get_or, set as store, length-map}
use Rattle.lists.specs.Lists.{range, nth, padded}
use Rattle.lists.proofs.ranges.Ranges.{length-range, nth-map-range}
use Rattle.lists.proofs.places.Padding.{nth-padded}

-- member i + 1 stands at place i
pub nth-next : {A : Type 0} (d : A) (l : List A) (i : ℕ) → nth d l (i + 1) ≡ get_or l i d
nth-next d l i = ap (λ k. get_or l k d) (add-sub_cancel i 1)

-- what stands in a place that f has filled
pub nth-padded-range : {A : Type 0} (places : ℕ) (d e : A) (f : ℕ → A) (n : ℕ) {i : ℕ} → Mem i (range 1 n) → nth e (padded places d (map f (range 1 n))) i ≡ f i
nth-padded-range places d e f n {i} m =
    let all : length (map f (range 1 n)) ≡ n = length-map (range 1 n) f ∙ length-range 1 n in
    nth-padded places d e (map f (range 1 n)) (subst⁻¹ (λ k. Mem i (range 1 k)) all m) ∙ nth-map-range f e n m

-- a small number stored among small numbers
pub store-small : (most : ℕ) (xs : List ℕ) (i v : ℕ) → v ≤ most → ((k : ℕ) → get_or xs k 0 ≤ most) → (k : ℕ) → get_or (store xs i v) k 0 ≤ most
store-small most [] i v le all k = all k
store-small most (x ∷ xs) zero v le all zero = le
store-small most (x ∷ xs) zero v le all (suc k) = all (suc k)
store-small most (x ∷ xs) (suc i) v le all zero = all zero
store-small most (x ∷ xs) (suc i) v le all (suc k) = store-small most xs i v le (λ j. all (suc j)) k
