-- One entry more in a short list that has room, and the library's tests of a list in this repository's words. Assumes nothing.
use mathlib.Core.Path.{◌≡◌, refl, sym, ap, ap₂, ◌∙◌}
use mathlib.Core.Bool.{Bool, false, ◌||◌, ◌&&◌}
use mathlib.Core.List.{List, [], ◌∷◌, ◌++◌}
use Prim.Native.Nat.{ℕ, zero, suc, ◌+◌, ◌≤◌, ◌<◌}
use native.Mathlib.Omega.{arith}
use lib.Dec.{eqb}
use lib.ListN.{length, take, get_or, length-append}
use lib.Seq.{take_all, take-suc, length-take-le}
use Rattle.std.specs.List.{list_any, list_all, range_with_len}
use Rattle.std.proofs.Common.{sum}
use Rattle.std.proofs.lemmas.List.Recursion.{is_sum_by}
use Rattle.lists.specs.Lists.{range, elem, all, reject}
use Rattle.lists.proofs.members.Counting.{length-sublist, reject-sublist}
use Rattle.lists.proofs.places.Passing.{reject-more}
use Rattle.lists.proofs.members.Distinct.{eqb_comm}
use Rattle.lists.specs.Sums.{total}
use Rattle.sheet.specs.Limits.{set_bits}

-- where there is room, one entry more stands behind the others
pub pushed : {A : Type 0} (l : List A) (x : A) → length l < set_bits → take set_bits (l ++ (x ∷ [])) ≡ l ++ (x ∷ [])
pushed l x room = take_all set_bits (l ++ (x ∷ [])) (omega (arith, length-append l (x ∷ [])))

-- the places so far and the next one are one place more
pub pushed-place : {A : Type 0} (l xs : List A) (i : ℕ) (x : A) → length xs ≤ set_bits → i < length xs → l ≡ take i xs → x ≡ get_or xs i x → take set_bits (l ++ (x ∷ [])) ≡ take (i + 1) xs
pushed-place l xs i x few more so_far is =
    let after : suc i ≡ i + 1 = omega arith in
    let next : l ++ (x ∷ []) ≡ take (i + 1) xs =
    ap₂ (λ front y. front ++ (y ∷ [])) so_far is ∙ sym (take-suc xs i x more) ∙ ap (λ n. take n xs) after in
    pushed l x (omega (arith, ap length so_far, length-take-le i xs (omega arith))) ∙ next

-- a list keeps the members of another that fail a test, and one member of it more fails it
pub kept : (p : ℕ → Bool) (xs : List ℕ) (x : ℕ) → length xs < set_bits → p x ≡ false → take set_bits (reject p xs ++ (x ∷ [])) ≡ reject p (xs ++ (x ∷ []))
kept p xs x few fails = pushed (reject p xs) x (omega (arith, length-sublist (reject-sublist p xs))) ∙ sym (reject-more p xs x fails)

-- whether the number stands in the list
pub contains-elem : (x : ℕ) (xs : List ℕ) → list_any (λ y. eqb y x) xs ≡ elem x xs
contains-elem x [] = refl
contains-elem x (y ∷ ys) = ap₂ ◌||◌ (eqb_comm y x) (contains-elem x ys)

-- the sum of the list
pub total-sum : (xs : List ℕ) → total xs ≡ sum xs
total-sum xs = is_sum_by total (λ x. x) refl (λ _ _. refl) xs

-- a test of each number from j on, and of each place from i on, the one before j
pub all-places : (p q : ℕ → Bool) → ((i : ℕ) → p (i + 1) ≡ q i) → (j i n : ℕ) → j ≡ i + 1 → all p (range j n) ≡ list_all q (range_with_len i n)
all-places p q same j i zero e = refl
all-places p q same j i (suc n) e = ap₂ ◌&&◌ (ap p e ∙ same i) (all-places p q same (suc j) (i + 1) n (omega arith))
