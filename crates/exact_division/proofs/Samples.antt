-- Refusals 4 and 5, and allocations of sheet c at both sides of a share, by computation. Assumes nothing.
use mathlib.Core.Path.{◌≡◌, refl}
use mathlib.Core.Bool.{Bool, true, false}
use mathlib.Core.List.{List, [], ◌∷◌, map}
use Prim.Native.Nat.{ℕ}
use Rattle.sheet.specs.Answers.{refused}
use Rattle.sheet.specs.Contents.{sheet_of}
use Rattle.maximin.specs.Share.{maximin_share}
use Rattle.shares.specs.Shares.{sharing}
use Rattle.exact_division.specs.Exact.{is_exact}
use Rattle.exact_division.specs.Search.{searching}

-- 0 and 7 yards give 4, 0 and 13 pieces give 5, and 4 is tried first
pub refusals-hold : map (λ (n, m). searching (sheet_of n m [])) ((0, 3) ∷ (7, 3) ∷ (2, 0) ∷ (2, 13) ∷ (7, 13) ∷ [])
    ≡ map refused (4 ∷ 4 ∷ 5 ∷ 5 ∷ 4 ∷ [])
unfolding searching sharing
refusals-hold = refl

-- an allocation of the items of sheet c, and whether it is exact
pub record Sample : Type 0 where
  pub bundles : List (List ℕ)
  pub exact : Bool

-- the marks of sheet c, where the shares are 1, 4 and 1
abbrev sheet_c : List (List ℕ)
sheet_c = (1 ∷ 1 ∷ 1 ∷ 1 ∷ []) ∷ (4 ∷ 4 ∷ 3 ∷ 1 ∷ []) ∷ (1 ∷ 1 ∷ 1 ∷ 1 ∷ []) ∷ []

unfoldable pub allocations : List Sample
allocations =
    -- each yard has just its share or more
    record { bundles = (3 ∷ []) ∷ (1 ∷ []) ∷ (2 ∷ 4 ∷ []) ∷ []; exact = true }
    -- yard 3 has nothing, one less than its share
    ∷ record { bundles = (1 ∷ 2 ∷ []) ∷ (3 ∷ 4 ∷ []) ∷ [] ∷ []; exact = false }
    -- the box's division: yard 2 has 3, one less than its share
    ∷ record { bundles = (1 ∷ 2 ∷ []) ∷ (3 ∷ []) ∷ (4 ∷ []) ∷ []; exact = false }
    ∷ []

pub allocations-judged : map (λ s. is_exact (sheet_of 3 4 sheet_c) s.bundles) allocations ≡ map (λ s. s.exact) allocations
unfolding allocations is_exact maximin_share
allocations-judged = refl
