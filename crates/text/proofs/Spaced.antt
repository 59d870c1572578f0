-- Texts of numbers: one number more after the other, and how long they are. Assumes nothing.
use mathlib.Core.Path.{◌≡◌, refl, sym, ap, ◌∙◌}
use mathlib.Core.List.{List, [], ◌∷◌, ◌++◌, append-nil, append_assoc, Memᴰ as Mem}
use Prim.Native.Nat.{ℕ, suc, ◌+◌, ◌*◌, ◌^◌, ◌≤◌, ◌<◌}
use native.Mathlib.Omega.{arith}
use lib.ListN.{length, length-append, get_or, take}
use Rattle.lists.specs.Sums.{sum_over}
use Rattle.lists.proofs.sums.Totals.{sum_over-le}
use Rattle.lists.proofs.places.Passing.{take_next}
use Rattle.text.specs.Bytes.{bytes}
use Rattle.text.specs.Decimal.{decimal, spaced_number, spaced_numbers}
use Rattle.text.proofs.Decimal.{decimal-length}

-- one number more
pub spaced_numbers-snoc : (ns : List ℕ) (n : ℕ) → spaced_numbers (ns ++ (n ∷ [])) ≡ spaced_numbers ns ++ (bytes " " ++ decimal n)
unfolding spaced_numbers
spaced_numbers-snoc [] n = append-nil (bytes " " ++ decimal n)
spaced_numbers-snoc (k ∷ ns) n =
    ap (λ t. bytes " " ++ decimal k ++ t) (spaced_numbers-snoc ns n) ∙ sym (append_assoc (bytes " " ++ decimal k) (spaced_numbers ns) (bytes " " ++ decimal n))

pub spaced_numbers-next : (ns : List ℕ) (i : ℕ) → i < length ns → spaced_numbers (take (i + 1) ns) ≡ spaced_numbers (take i ns) ++ spaced_number (get_or ns i 0)
spaced_numbers-next ns i more = ap spaced_numbers (take_next ns i more) ∙ spaced_numbers-snoc (take i ns) (get_or ns i 0)

-- a number and the space in front of it
abbrev pub spaced : ℕ → ℕ
spaced k = 1 + length (decimal k)

pub length-spaced_numbers : (ns : List ℕ) → length (spaced_numbers ns) ≡ sum_over spaced ns
unfolding spaced_numbers
length-spaced_numbers [] = refl
length-spaced_numbers (n ∷ ns) = simp length-append (omega (arith, length-spaced_numbers ns))

-- numbers of at most so many digits
pub sum_over-spaced : (digits : ℕ) (ns : List ℕ) → 0 < digits → ((n : ℕ) → Mem n ns → n < 10 ^ digits) → sum_over spaced ns ≤ suc digits * length ns
sum_over-spaced digits ns some-digit small =
    omega (arith, sum_over-le spaced 1 (suc digits) ns (λ n m. omega (arith, decimal-length n digits some-digit (small n m))))
