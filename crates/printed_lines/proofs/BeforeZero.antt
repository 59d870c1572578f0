-- The cutters before the first 0 of an array. Assumes nothing.
use mathlib.Core.Path.{◌≡◌, refl, ap}
use mathlib.Core.List.{List, [], ◌∷◌, ◌++◌}
use Prim.Native.Nat.{ℕ, zero, suc, ◌+◌, ◌<◌}
use native.Mathlib.Omega.{arith}
use lib.ListN.{length, get_or, take, drop}
use lib.Dec.{eqb-suc-zero}
use Rattle.std.specs.Prelude.{◌==◌, not}
use Rattle.std.specs.List.{prefix_len, take_while}
use Rattle.lists.specs.Lists.{zeros, Within}
use Rattle.printed_lines.specs.BeforeZero.{before_zero}

-- an entry that is no 0 stands before the first 0
pub before_zero-next : (l : List ℕ) (i : ℕ) → i < length l → (get_or l i 0 ≡ 0 → ⊥) → take i l ++ before_zero (drop i l) ≡ take (suc i) l ++ before_zero (drop (suc i) l)
before_zero-next [] i more some = absurd (omega arith)
before_zero-next (zero ∷ l) zero more some = absurd (some refl)
before_zero-next (suc k ∷ l) zero more some = refl
before_zero-next (k ∷ l) (suc i) more some = ap (λ r. k ∷ r) (before_zero-next l i (omega arith) some)

-- none stands there from a 0 on, or from the end on
pub before_zero-end : (l : List ℕ) (i : ℕ) → get_or l i 0 ≡ 0 → take i l ++ before_zero (drop i l) ≡ take i l
before_zero-end [] zero none = refl
before_zero-end [] (suc i) none = refl
before_zero-end (zero ∷ l) zero none = refl
before_zero-end (suc k ∷ l) zero none = absurd (omega arith)
before_zero-end (k ∷ l) (suc i) none = ap (λ r. k ∷ r) (before_zero-end l i none)

-- they are as many as stand in the front that has no 0
pub before_zero-front : (l : List ℕ) → take (length (take_while (λ c. not (c == 0)) l)) l ≡ before_zero l
before_zero-front [] = refl
before_zero-front (zero ∷ l) = refl
before_zero-front (suc k ∷ l) =
    let rest = prefix_len (λ c. not (c == 0)) l in
    let one-more : 1 + rest ≡ suc rest = omega arith in
    rw (eqb-suc-zero k, one-more) (ap (λ r. suc k ∷ r) (before_zero-front l))

-- zeros behind the cutters are left out
pub before_zero-padded : (n k : ℕ) (cutters : List ℕ) → Within n cutters → before_zero (cutters ++ zeros k) ≡ cutters
before_zero-padded n zero [] w = refl
before_zero-padded n (suc k) [] w = refl
before_zero-padded n k (zero ∷ cutters) w = absurd (omega (arith, w.0))
before_zero-padded n k (suc c ∷ cutters) w = ap (λ l. suc c ∷ l) (before_zero-padded n k cutters w.2)
