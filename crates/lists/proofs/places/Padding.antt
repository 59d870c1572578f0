-- Lists in so many places: what stands in the places in use and in the others, and the next place filled. Assumes nothing.
use mathlib.Core.Path.{◌≡◌, refl, sym, ap, ap₂, ◌∙◌}
use mathlib.Core.List.{List, [], ◌∷◌, ◌++◌, map, map-append, append_assoc, Memᴰ as Mem}
use Prim.Native.Nat.{ℕ, zero, suc, ◌+◌, ◌-◌, ◌≤◌, ◌<◌}
use native.Mathlib.Nat.{add_comm, zero-add, zero-sub, sub-zero, suc-sub-suc}
use native.Mathlib.Omega.{arith}
use lib.ListN.{length, take, drop, replicate, set as store, length-map, length-append, length-replicate, length-take, get_or-append}
use lib.Seq.{take-append_seam, length-take-le, sets, sets-eq}
use Rattle.lists.specs.Lists.{range, nth, padded}
use Rattle.lists.proofs.ranges.Ranges.{length-range, range-append, range-bounds}

pub drop-replicate : {A : Type 0} (d : A) (n k : ℕ) → drop k (replicate n d) ≡ replicate (n - k) d
drop-replicate d n zero = rw (sub-zero n)
drop-replicate d zero (suc k) = rw (zero-sub (suc k))
drop-replicate d (suc n) (suc k) = drop-replicate d n k ∙ ap (λ i. replicate i d) (sym (suc-sub-suc n k))

module _ {A : Type 0} (n : ℕ) (d : A) where
  pub length-padded : (l : List A) → length l ≤ n → length (padded n d l) ≡ n
  length-padded l few = length-append l (replicate (n - length l) d) ∙ omega (arith, length-replicate (n - length l) d)

  -- the places in use are the list
  pub take-padded : (l : List A) → take (length l) (padded n d l) ≡ l
  take-padded l = take-append_seam l (replicate (n - length l) d)

  -- where the places after the first k are blank, those first are k
  pub length-padded-taken : (k : ℕ) (l : List A) → k ≤ n → l ≡ padded n d (take k l) → length (take k l) ≡ k
  length-padded-taken k l few blank =
      let all : length l ≡ n = ap length blank ∙ length-padded (take k l) (omega (arith, length-take k l)) in
      length-take-le k l (omega arith)

  store-seam : (xs ys : List A) (y v : A) → store (xs ++ y ∷ ys) (length xs) v ≡ xs ++ v ∷ ys
  store-seam [] ys y v = refl
  store-seam (x ∷ xs) ys y v = ap (λ l. x ∷ l) (store-seam xs ys y v)

  -- the next place is filled
  pub padded-next : (l : List A) (v : A) → length l < n → store (padded n d l) (length l) v ≡ padded n d (l ++ (v ∷ []))
  padded-next l v room =
      let more : n - length l ≡ suc (n - length (l ++ (v ∷ []))) = omega (arith, length-append l (v ∷ [])) in
      rw (more, append_assoc l (v ∷ []) (replicate (n - length (l ++ (v ∷ []))) d))
      (store-seam l (replicate (n - length (l ++ (v ∷ []))) d) d v)

  -- places after the first k that are blank stay so once place k is filled
  pub store-padded-taken : (k : ℕ) (l : List A) (v : A) → k < n → l ≡ padded n d (take k l) → store l k v ≡ padded n d (take (k + 1) (store l k v))
  store-padded-taken k l v room blank =
      let few : length (take k l) ≡ k = length-padded-taken k l (omega arith) blank in
      let next : store l k v ≡ padded n d (take k l ++ (v ∷ [])) =
      ap (λ m. store m k v) blank
      ∙ ap (λ i. store (padded n d (take k l)) i v) (sym few)
      ∙ padded-next (take k l) v (omega (arith, few)) in
      let longer : length (take k l ++ (v ∷ [])) ≡ k + 1 = length-append (take k l) (v ∷ []) ∙ ap (λ i. i + 1) few in
      let front : take (k + 1) (store l k v) ≡ take k l ++ (v ∷ []) =
      ap₂ take (sym longer) next ∙ take-padded (take k l ++ (v ∷ [])) in
      next ∙ ap (padded n d) (sym front)

  -- all places blank, and then a list stored from the first on
  pub sets-blank : (l : List A) → length l ≤ n → sets (replicate n d) 0 l ≡ padded n d l
  sets-blank l few =
      sets-eq l (replicate n d) 0 (omega (arith, length-replicate n d))
      ∙ ap (λ r. l ++ r) (ap (λ k. drop k (replicate n d)) (zero-add (length l)) ∙ drop-replicate d n (length l))

  -- the places of 1 .. i are filled by f, and then the next
  pub padded-range : (f : ℕ → A) (i : ℕ) (v : A) → i < n → v ≡ f (i + 1) → store (padded n d (map f (range 1 i))) i v ≡ padded n d (map f (range 1 (i + 1)))
  padded-range f i v room e =
      let same : length (map f (range 1 i)) ≡ i = length-map (range 1 i) f ∙ length-range 1 i in
      ap (λ k. store (padded n d (map f (range 1 i))) k v) (sym same)
      ∙ padded-next (map f (range 1 i)) v (omega arith)
      ∙ ap (padded n d) (ap (λ x. map f (range 1 i) ++ (x ∷ [])) (e ∙ ap f (add_comm i 1)) ∙ sym (map-append f (range 1 i) (range (1 + i) 1)) ∙ ap (map f) (sym (range-append 1 i 1)))

  -- what stands in a place in use
  pub nth-padded : (e : A) (l : List A) {i : ℕ} → Mem i (range 1 (length l)) → nth e (padded n d l) i ≡ nth e l i
  nth-padded e l {i} m = let b = range-bounds 1 (length l) m in get_or-append l (replicate (n - length l) d) e (i - 1) (omega arith)
