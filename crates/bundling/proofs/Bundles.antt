-- Laws of the bundles of a partition, item after item. Assumes nothing.
use mathlib.Core.Path.{◌≡◌, refl, ap, ◌∙◌}
use mathlib.Core.Bool.{Bool, true, false}
use mathlib.Core.Logic.{◌⊎◌, ⊎_elim}
use mathlib.Core.List.Memᴰ.{head as here}
use mathlib.Core.List.Memᴰ.{tail as there}
use mathlib.Core.List.{List, [], ◌∷◌, ◌++◌, map, append-nil, Memᴰ as Mem}
use mathlib.Core.List.Sublistᴰ.{cons as skip}
use mathlib.Core.List.Sublistᴰ.{cons-cons as keep}
use mathlib.Core.List.Sublistᴰ.{nil-sublist}
use mathlib.Core.List.Sublistᴰ.{slnil as done}
use mathlib.Core.List.{Sublistᴰ as Sublist}
use Prim.Native.Nat.{ℕ, zero, suc, ◌+◌, ◌≤◌, ◌<◌, min}
use native.Mathlib.Omega.{arith}
use lib.Dec.{eqb}
use lib.ListN.{length, get_or, take, length-take}
use borrow.Author.Tests.{eq-eqb, ne_eqb}
use Rattle.lists.specs.Lists.{cons_if, filter}
use Rattle.lists.proofs.members.Counting.{cons_if-append}
use Rattle.lists.proofs.places.Passing.{take_next}
use Rattle.bundling.specs.Bundles.{items_in, bundle}

pub items_in-sublist : (t : ℕ → Bool) (items l : List ℕ) → Sublist (items_in t items l) items
items_in-sublist t [] l = done
items_in-sublist t (k ∷ items) [] = nil-sublist (k ∷ items)
items_in-sublist t (k ∷ items) (c ∷ l) = elim (t c) as (λ b. Sublist (cons_if b k (items_in t items l)) (k ∷ items))
    [ true ↦ keep refl (items_in-sublist t items l) | false ↦ skip (items_in-sublist t items l) ]

-- bundles that fail the test hold nothing
pub items_in-none : (t : ℕ → Bool) (items l : List ℕ) → ((c : ℕ) → Mem c l → t c ≡ false) → items_in t items l ≡ []
items_in-none t [] l none = refl
items_in-none t (k ∷ items) [] none = refl
items_in-none t (k ∷ items) (c ∷ l) none = rw (none c (here refl)) (items_in-none t items l (λ d m. none d (there m)))

-- the items of the bundles that pass a test, where f names the bundle of each item
pub items_in-map : (t : ℕ → Bool) (f : ℕ → ℕ) (items : List ℕ) → items_in t items (map f items) ≡ filter (λ k. t (f k)) items
items_in-map t f [] = refl
items_in-map t f (k ∷ items) = ap (cons_if (t (f k)) k) (items_in-map t f items)

-- one item more
pub items_in-snoc : (t : ℕ → Bool) (ks : List ℕ) (k : ℕ) (l : List ℕ) → length ks < length l
    → items_in t (ks ++ (k ∷ [])) l ≡ items_in t ks l ++ cons_if (t (get_or l (length ks) 0)) k []
items_in-snoc t ks k [] few = absurd (omega arith)
items_in-snoc t [] k (c ∷ l) few = refl
items_in-snoc t (j ∷ ks) k (c ∷ l) few = ap (cons_if (t c) j) (items_in-snoc t ks k l (omega arith)) ∙ cons_if-append (t c) j (items_in t ks l) (cons_if (t (get_or l (length ks) 0)) k [])

-- entries beyond the items count for nothing
pub items_in-append : (t : ℕ → Bool) (ks l l' : List ℕ) → length ks ≤ length l → items_in t ks (l ++ l') ≡ items_in t ks l
items_in-append t [] l l' few = refl
items_in-append t (k ∷ ks) [] l' few = absurd (omega arith)
items_in-append t (k ∷ ks) (c ∷ l) l' few = ap (cons_if (t c) k) (items_in-append t ks l l' (omega arith))

-- items beyond the entries lie in no bundle
pub items_in-take : (t : ℕ → Bool) (ks l : List ℕ) (i : ℕ) → min (length ks) (length l) ≤ i → items_in t (take i ks) l ≡ items_in t ks l
items_in-take t [] l zero laid = refl
items_in-take t [] l (suc i) laid = refl
items_in-take t (k ∷ ks) [] zero laid = refl
items_in-take t (k ∷ ks) [] (suc i) laid = refl
items_in-take t (k ∷ ks) (c ∷ l) zero laid = absurd (omega arith)
items_in-take t (k ∷ ks) (c ∷ l) (suc i) laid = ap (cons_if (t c) k) (items_in-take t ks l i (omega arith))

module _ (c : ℕ) (ks l : List ℕ) (i : ℕ) (more : i < length ks) (laid : i < length l) where
  bundle-next : bundle (take (i + 1) ks) l c ≡ bundle (take i ks) l c ++ cons_if (eqb c (get_or l i 0)) (get_or ks i 0) []
  bundle-next =
      let passed : length (take i ks) ≡ i = simp length-take (omega arith) in
      ap (λ r. bundle r l c) (take_next ks i more)
      ∙ items_in-snoc (eqb c) (take i ks) (get_or ks i 0) l (omega arith)
      ∙ ap (λ k. bundle (take i ks) l c ++ cons_if (eqb c (get_or l k 0)) (get_or ks i 0) []) passed

  -- the next item lies in the bundle
  pub bundle-taken : c ≡ get_or l i 0 → bundle (take (i + 1) ks) l c ≡ bundle (take i ks) l c ++ (get_or ks i 0 ∷ [])
  bundle-taken e = bundle-next ∙ rw (eq-eqb c (get_or l i 0) e)

  -- the next item lies in another
  pub bundle-left : (c ≡ get_or l i 0 → ⊥) → bundle (take (i + 1) ks) l c ≡ bundle (take i ks) l c
  bundle-left ne = bundle-next ∙ rw (ne_eqb c (get_or l i 0) ne) (append-nil (bundle (take i ks) l c))

-- no item is left, or no entry
pub bundle-empty : (ks l : List ℕ) (c : ℕ) → (length ks ≡ 0) ⊎ (length l ≡ 0) → bundle ks l c ≡ []
bundle-empty [] l c none = refl
bundle-empty (k ∷ ks) [] c none = refl
bundle-empty (k ∷ ks) (d ∷ l) c none = ⊎_elim (λ e. absurd (omega arith)) (λ e. absurd (omega arith)) none
